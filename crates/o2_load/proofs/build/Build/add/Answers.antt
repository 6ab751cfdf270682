use Rattle.std.proofs.Common.{◌∙◌, subst, ℕ, arith}
use Rattle.o2_world.specs.Starts.{named, holds}
use Rattle.o2_load.specs.Holds.{IsHolding, gripped, bytes_with_room, stage}
use Rattle.o2_load.proofs.Held.{new_refused, others_behind, others_kept}
use Rattle.o2_load.proofs.build.Build.add.Goals as goal

pub returns-in_err-name-clause-adds : goal.returns-in_err-name-clause-adds
returns-in_err-name-clause-adds g c =
    let S = g.S.Segments in
    let is = c.from_residual.ensures in
    let after = S.names c.name.new.self.segments c.args.images.now in
    let z = stage (S.seen c.name.new.self.segments) c.name.new.self in
    new_refused (S.names c.args.self.now.segments c.args.images.now) after after (stage (S.seen c.args.self.now.segments) c.args.self.now) z z c.args.pid
    (gripped c.args.grip.now (bytes_with_room c.args.images.now c.args.grip.now c.args.size c.args.room)) c.in_err-name.field-0.0 c.from_residual.result is.0 is.1 c.in_err-name.ensures.makes

pub hold-requires-clause-whole : goal.hold-requires-clause-whole
hold-requires-clause-whole g c = c.in_ok-name.ensures.whole

pub hold-requires-clause-name : goal.hold-requires-clause-name
hold-requires-clause-name g c = let m = c.in_ok-name.ensures.name in omega (arith, m.name, m.count)

pub hold-requires-clause-takes : goal.hold-requires-clause-takes
hold-requires-clause-takes g c = c.name.ensures.held.setting.takes c.args.pid c.args.grip.now.index ∙ c.requires.takes

pub returns-clause-adds : goal.returns-clause-adds
returns-clause-adds g c = λ most b is.
    let S = g.S.Segments in
    let bytes = bytes_with_room c.args.images.now c.args.grip.now c.args.size c.args.room in
    let h = gripped c.args.grip.now bytes in
    subst (λ (n : ℕ). IsHolding (S.names c.hold.new.self.segments c.args.images.now) (stage (S.seen c.hold.new.self.segments) c.hold.new.self) most c.args.pid (holds (named b h) h n))
    (c.in_ok-name.ensures.name.name ∙ is.count) (c.in_ok-hold.ensures.adds c.args.images.now most (named b h) bytes (c.in_ok-name.ensures.makes most c.args.pid b is))

pub returns-clause-ready : goal.returns-clause-ready
returns-clause-ready g c = λ l ready. c.in_ok-hold.ensures.ready l (c.in_ok-name.ensures.ready l ready)

pub returns-in_err-name-clause-others : goal.returns-in_err-name-clause-others
returns-in_err-name-clause-others g c =
    let S = g.S.Segments in
    others_kept (S.seen c.args.self.now.segments) (S.seen c.name.new.self.segments) c.args.pid c.name.ensures.held

pub returns-in_err-hold-clause-others : goal.returns-in_err-hold-clause-others
returns-in_err-hold-clause-others g c =
    let S = g.S.Segments in
    others_behind (S.seen c.args.self.now.segments) (S.seen c.name.new.self.segments) (S.seen c.hold.new.self.segments) c.args.pid c.name.ensures.held c.hold.ensures.others

pub returns-clause-others : goal.returns-clause-others
returns-clause-others g c =
    let S = g.S.Segments in
    others_behind (S.seen c.args.self.now.segments) (S.seen c.name.new.self.segments) (S.seen c.hold.new.self.segments) c.args.pid c.name.ensures.held c.hold.ensures.others
