use Rattle.std.proofs.Common.{◌≡◌, Some, None, sym, ◌∙◌, subst, arith}
use Rattle.std.proofs.lemmas.List.{at_drop_more, at_drop_all, drop_more}
use Rattle.std.proofs.lemmas.Bool.Decides.{nat_tests}
use Rattle.o2_place.specs.declared.ranges.Range.{Range}
use Rattle.o2_place.specs.Layout.{IsLowestFrom}
use Rattle.o2_place.proofs.RangeLemmas.{fit_from, fit_law, AreLaid-within}
use Rattle.o2_place.proofs.ranges.lowest_free.Goals as goal

abbrev none : Range
none = record { id = 0; at = 0; len = 0 }

pub returns-then-r-low : goal.returns-then-r-low
returns-then-r-low c =
    let rs = c.args.ranges.now in
    let s = at_drop_more (fit_from c.loop-r.low c.args.size c.args.len) rs c.loop-r.r-index none (omega arith) in
    let e : fit_from 0 c.args.size c.args.len rs ≡ Some c.loop-r.low = sym c.loop-r.invariant.same ∙ s ∙ grind (arith, nat_tests) in
    subst (IsLowestFrom 0 c.args.size c.args.len rs) e (fit_law rs 0 c.args.size c.args.len c.requires)

pub overflow_add-low : goal.overflow_add-low
overflow_add-low c =
    let rs = c.args.ranges.now in
    let laid = rw (drop_more rs c.loop-r.r-index none (omega arith)) at c.loop-r.invariant.laid in
    omega (arith, AreLaid-within _ _ _ laid.2)

pub returns-then-size-low : goal.returns-then-size-low
returns-then-size-low c =
    let rs = c.args.ranges.now in
    let s = at_drop_all (fit_from c.loop-r.low c.args.size c.args.len) rs c.loop-r.r-index (omega arith) in
    let e : fit_from 0 c.args.size c.args.len rs ≡ Some c.loop-r.low = sym c.loop-r.invariant.same ∙ s ∙ grind (arith, nat_tests) in
    subst (IsLowestFrom 0 c.args.size c.args.len rs) e (fit_law rs 0 c.args.size c.args.len c.requires)

pub returns-else-size-low : goal.returns-else-size-low
returns-else-size-low c =
    let rs = c.args.ranges.now in
    let s = at_drop_all (fit_from c.loop-r.low c.args.size c.args.len) rs c.loop-r.r-index (omega arith) in
    let e : fit_from 0 c.args.size c.args.len rs ≡ None = sym c.loop-r.invariant.same ∙ s ∙ grind (arith, nat_tests) in
    subst (IsLowestFrom 0 c.args.size c.args.len rs) e (fit_law rs 0 c.args.size c.args.len c.requires)
