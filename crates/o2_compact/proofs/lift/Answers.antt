use Rattle.std.proofs.Common.{◌+◌, arith, ap}
use Rattle.o2_place.specs.declared.ranges.Range.{Range}
use Rattle.o2_place.specs.Layout.{no_range}
use Rattle.o2_place.proofs.RangeLemmas.{laid_at, start_of-le}
use Rattle.o2_compact.proofs.Steps.{lift_fits, lift_room}
use Rattle.o2_compact.proofs.lift.Goals as goal

pub overflow_add-was : goal.overflow_add-was
overflow_add-was c =
    let p = c.args.places.now in
    let e = ap (λ (r : Range). r.at) c.range_at-was.ensures in
    let b = lift_fits p c.args.k c.args.growth c.requires.within c.requires.packed c.requires.room in
    let s = start_of-le p.ranges (c.args.k + 1) 0 p.size c.law.ensures.layout.laid in
    omega (arith, e, b, s, c.law.ensures.small)

pub move_range-requires-clause-above : goal.move_range-requires-clause-above
move_range-requires-clause-above c =
    let p = c.args.places.now in
    let e = ap (λ (r : Range). r.at) c.range_at-was.ensures in
    let a = laid_at p.ranges c.args.k 0 p.size no_range c.requires.within c.law.ensures.layout.laid in
    omega (arith, e, a.2)

pub returns-clause-room : goal.returns-clause-room
returns-clause-room c =
    let e = ap (λ (r : Range). r.at + c.args.growth) c.range_at-was.ensures in
    lift_room c.args.places.now c.move_range.new.places c.args.k c.args.growth (c.range_at-was.result.at + c.args.growth) c.requires.within c.requires.packed e c.move_range.ensures.moved
