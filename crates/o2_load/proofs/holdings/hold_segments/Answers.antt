use Rattle.std.proofs.Common.{arith}
use Rattle.std.specs.Prelude.{Ok}
use Rattle.o2_load.specs.Holds.{stage}
use Rattle.o2_load.proofs.Held.{others_on}
use Rattle.o2_load.specs.Loads.{segment_holdings}
use Rattle.o2_load.proofs.Modules.{steps_next, steps_refused, steps_all}
use Rattle.o2_load.proofs.Steps.{adds_handed}
use Rattle.o2_load.proofs.holdings.hold_segments.Goals as goal

pub returns-in_err-hold_segment-clause-adds : goal.returns-in_err-hold_segment-clause-adds
returns-in_err-hold_segment-clause-adds g c =
    let S = g.S.Segments in
    let images = c.args.linked.now.images in
    let first = S.names c.args.build.now.segments images in
    let mid = S.names c.loop-k.build.segments images in
    let last = S.names c.hold_segment.new.build.segments images in
    let a = stage (S.seen c.args.build.now.segments) c.args.build.now in
    let m = stage (S.seen c.loop-k.build.segments) c.loop-k.build in
    let z = stage (S.seen c.hold_segment.new.build.segments) c.hold_segment.new.build in
    let is = c.from_residual.ensures in
    let e = c.in_err-hold_segment.field-0.0 in
    adds_handed first last a z c.args.pid (segment_holdings images c.args.place c.args.module.now) c.from_residual.result e is.0 is.1
    (steps_refused first mid last a m z c.args.pid images c.args.place c.args.module.now c.loop-k.k (omega (arith, c.loop-k-test.true, c.segment_count-k-end.ensures)) e c.loop-k.invariant.adds c.in_err-hold_segment.ensures.adds)

pub loop-k-preserved : goal.loop-k-preserved
loop-k-preserved g c =
    let S = g.S.Segments in
    let images = c.args.linked.now.images in
    let first = S.names c.args.build.now.segments images in
    let mid = S.names c.loop-k.build.segments images in
    let last = S.names c.hold_segment.new.build.segments images in
    let a = stage (S.seen c.args.build.now.segments) c.args.build.now in
    let m = stage (S.seen c.loop-k.build.segments) c.loop-k.build in
    let z = stage (S.seen c.hold_segment.new.build.segments) c.hold_segment.new.build in
    record {
      adds = steps_next first mid last a m z c.args.pid images c.args.place c.args.module.now c.loop-k.k (omega (arith, c.loop-k-test.true, c.segment_count-k-end.ensures)) (Ok tt) c.loop-k.invariant.adds c.in_ok-hold_segment.ensures.adds;
      others = others_on (S.seen c.args.build.now.segments) (S.seen c.loop-k.build.segments) (S.seen c.hold_segment.new.build.segments) c.args.pid c.loop-k.invariant.others c.hold_segment.ensures.others;
      ready = c.in_ok-hold_segment.ensures.ready;
    }

pub returns-clause-adds : goal.returns-clause-adds
returns-clause-adds g c =
    let S = g.S.Segments in
    let images = c.args.linked.now.images in
    steps_all (S.names c.args.build.now.segments images) (S.names c.loop-k.build.segments images) (stage (S.seen c.args.build.now.segments) c.args.build.now) (stage (S.seen c.loop-k.build.segments) c.loop-k.build)
    c.args.pid images c.args.place c.args.module.now c.loop-k.k (Ok tt) (omega (arith, c.loop-k-test.false, c.segment_count-k-end.ensures)) c.loop-k.invariant.adds

pub returns-in_err-hold_segment-clause-others : goal.returns-in_err-hold_segment-clause-others
returns-in_err-hold_segment-clause-others g c =
    let S = g.S.Segments in
    others_on (S.seen c.args.build.now.segments) (S.seen c.loop-k.build.segments) (S.seen c.hold_segment.new.build.segments) c.args.pid c.loop-k.invariant.others c.hold_segment.ensures.others
