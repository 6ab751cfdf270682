use Rattle.std.proofs.Common.{◌+◌, arith, ap, ◌∙◌}
use Rattle.o2_place.specs.declared.ranges.Range.{Range}
use Rattle.o2_place.specs.Layout.{no_range, range_at, reshaped}
use Rattle.o2_place.proofs.RangeLemmas.{laid_at}
use Rattle.o2_compact.proofs.Steps.{move_law, from_inside, to_inside}
use Rattle.o2_compact.proofs.move_range.Goals as goal

pub reshape-requires-clause-some : goal.reshape-requires-clause-some
reshape-requires-clause-some c =
    let p = c.args.places.now in
    let a = laid_at p.ranges c.args.k 0 p.size no_range c.requires.within c.law.ensures.layout.laid in
    let e = ap (λ (r : Range). r.len) c.range_at-was.ensures in
    omega (arith, a.0, e)

pub reshape-requires-clause-below : goal.reshape-requires-clause-below
reshape-requires-clause-below c = let e = ap (λ (r : Range). r.len) c.range_at-was.ensures in omega (arith, c.requires.below, e)

pub slide-requires-clause-from_inside : goal.slide-requires-clause-from_inside
slide-requires-clause-from_inside c =
    let b = from_inside c.args.places.now c.args.k c.range_at-was.result c.range_at-was.ensures c.law.ensures.layout c.requires.within c.law.ensures.within in
    omega (arith, b, c.requires.memory)

pub slide-requires-clause-to_inside : goal.slide-requires-clause-to_inside
slide-requires-clause-to_inside c =
    let b = to_inside c.args.places.now c.reshape.new.self c.args.k c.args.to c.range_at-was.result c.range_at-was.ensures c.reshape.ensures.reshaped c.law.ensures.layout c.requires.within c.law-2.ensures.within in
    omega (arith, b, c.requires.memory)

pub overflow_add-result : goal.overflow_add-result
overflow_add-result c =
    let b = to_inside c.args.places.now c.reshape.new.self c.args.k c.args.to c.range_at-was.result c.range_at-was.ensures c.reshape.ensures.reshaped c.law.ensures.layout c.requires.within c.law-2.ensures.within in
    omega (arith, b, c.law.ensures.small)

pub returns-clause-kept : goal.returns-clause-kept
returns-clause-kept c =
    move_law c.args.phys.now c.slide.new.self c.args.places.now c.reshape.new.self c.args.k c.args.to c.range_at-was.result c.range_at-was.ensures c.reshape.ensures.reshaped c.slide.ensures.slid
    c.law.ensures.layout c.requires.within c.requires.memory c.law.ensures.within c.law-2.ensures.within c.law-2.ensures.apart

pub returns-clause-moved : goal.returns-clause-moved
returns-clause-moved c =
    c.reshape.ensures.reshaped ∙ ap (λ (r : Range). reshaped c.args.places.now c.args.k (range_at c.args.places.now.ranges c.args.k).id c.args.to r.len) c.range_at-was.ensures

pub returns-clause-end : goal.returns-clause-end
returns-clause-end c = ap (λ (r : Range). c.args.to + r.len) c.range_at-was.ensures
