use Rattle.std.proofs.Common.{arith, refl, get_or}
use Rattle.std.specs.Prelude.{Ok}
use Rattle.o2_load.specs.Holds.{stage}
use Rattle.o2_load.proofs.Held.{others_on}
use Rattle.o2_load.proofs.Modules.{held_at, libraries_next, libraries_refused, libraries_all}
use Rattle.o2_load.proofs.Steps.{adds_handed}
use Rattle.o2_load.proofs.holdings.hold_libraries.Goals as goal

pub returns-in_err-hold_module-clause-adds : goal.returns-in_err-hold_module-clause-adds
returns-in_err-hold_module-clause-adds g c =
    let S = g.S.Segments in
    let images = c.args.linked.now.images in
    let first = S.names c.args.build.now.segments images in
    let mid = S.names c.loop-place.build.segments images in
    let last = S.names c.hold_module.new.build.segments images in
    let a = stage (S.seen c.args.build.now.segments) c.args.build.now in
    let m = stage (S.seen c.loop-place.build.segments) c.loop-place.build in
    let z = stage (S.seen c.hold_module.new.build.segments) c.hold_module.new.build in
    let is = c.from_residual.ensures in
    let e = c.in_err-hold_module.field-0.0 in
    adds_handed first last a z c.args.pid (held_at images c.args.places.now) c.from_residual.result e is.0 is.1
    (libraries_refused images first mid last a m z c.args.pid c.args.places.now c.loop-place.place-index (get_or c.args.places.now c.loop-place.place-index 0) c.loop-place-test.true refl e c.loop-place.invariant.adds c.in_err-hold_module.ensures.adds)

pub loop-place-preserved : goal.loop-place-preserved
loop-place-preserved g c =
    let S = g.S.Segments in
    let images = c.args.linked.now.images in
    let first = S.names c.args.build.now.segments images in
    let mid = S.names c.loop-place.build.segments images in
    let last = S.names c.hold_module.new.build.segments images in
    let a = stage (S.seen c.args.build.now.segments) c.args.build.now in
    let m = stage (S.seen c.loop-place.build.segments) c.loop-place.build in
    let z = stage (S.seen c.hold_module.new.build.segments) c.hold_module.new.build in
    record {
      adds = libraries_next images first mid last a m z c.args.pid c.args.places.now c.loop-place.place-index (get_or c.args.places.now c.loop-place.place-index 0) c.loop-place-test.true refl (Ok tt) c.loop-place.invariant.adds c.in_ok-hold_module.ensures.adds;
      others = others_on (S.seen c.args.build.now.segments) (S.seen c.loop-place.build.segments) (S.seen c.hold_module.new.build.segments) c.args.pid c.loop-place.invariant.others c.hold_module.ensures.others;
      ready = c.in_ok-hold_module.ensures.ready;
    }

pub returns-clause-adds : goal.returns-clause-adds
returns-clause-adds g c =
    let S = g.S.Segments in
    let images = c.args.linked.now.images in
    libraries_all images (S.names c.args.build.now.segments images) (S.names c.loop-place.build.segments images) (stage (S.seen c.args.build.now.segments) c.args.build.now)
    (stage (S.seen c.loop-place.build.segments) c.loop-place.build) c.args.pid c.args.places.now c.loop-place.place-index (Ok tt) (omega (arith, c.loop-place-test.false)) c.loop-place.invariant.adds

pub returns-in_err-hold_module-clause-others : goal.returns-in_err-hold_module-clause-others
returns-in_err-hold_module-clause-others g c =
    let S = g.S.Segments in
    others_on (S.seen c.args.build.now.segments) (S.seen c.loop-place.build.segments) (S.seen c.hold_module.new.build.segments) c.args.pid c.loop-place.invariant.others c.hold_module.ensures.others
