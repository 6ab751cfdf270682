use Rattle.std.proofs.Common.{◌≡◌, ◌≢◌, ℕ, Some, ap, arith, sym, ◌∙◌}
use Rattle.o2_regions.specs.Maps.{held_at}
use Rattle.o2_huge.specs.Growth.{is_of_run}
use Rattle.o2_huge.proofs.Keeping.{lost_few, lost_shares}
use Rattle.o2_huge.proofs.Cutting.{cut_one, lost_here, lost_others, none_left, same_hold, shrunk}
use Rattle.o2_huge.proofs.losing.cut_one.Goals as goal

pub returns-in-Some-clause-shrinks : goal.returns-in-Some-clause-shrinks
returns-in-Some-clause-shrinks c =
    let s = c.args.store.now in
    let t = c.lose.new.store in
    let m = c.args.regions.now in
    let n = c.lose.new.regions in
    let pid = c.args.pid in
    let i = c.args.index in
    let h = c.in-Some.held in
    let lost = c.lose.ensures in
    let there : held_at m pid i ≡ Some h = sym c.in-Some.ensures.held in
    let others : (q j : ℕ) → (q ≡ pid → j ≢ i) → held_at n q j ≡ held_at m q j = (λ q j other. lost_others m n pid i h.holds q j lost.takes other) in
    let gone = lost_here m n pid i h lost.takes there in
    shrunk s t m n pid i h.holds h.id c.law-2.ensures.shelf c.law-in-Some.ensures.shelf lost.takes lost.reserved lost.sweeps lost.places
    (lost_few s t m n pid i h there lost.sweeps others gone) (lost_shares s t m n pid i h there lost.sweeps others gone) lost.goes_on

pub returns-in-Some-clause-others : goal.returns-in-Some-clause-others
returns-in-Some-clause-others c = λ q i other. lost_others c.args.regions.now c.lose.new.regions c.args.pid c.args.index c.in-Some.held.holds q i c.lose.ensures.takes other

pub returns-in-Some-clause-gone : goal.returns-in-Some-clause-gone
returns-in-Some-clause-gone c = lost_here c.args.regions.now c.lose.new.regions c.args.pid c.args.index c.in-Some.held c.lose.ensures.takes (sym c.in-Some.ensures.held)

pub returns-in-Some-clause-matches : goal.returns-in-Some-clause-matches
returns-in-Some-clause-matches c =
    cut_one c.args.store.now c.lose.new.store c.args.regions.now c.lose.new.regions c.args.pid c.args.index c.args.first c.in-Some.held c.requires.may_cut.head.held (sym c.in-Some.ensures.held)
    (ap (is_of_run c.args.first) (same_hold _ _ _ c.in-Some.ensures.held c.requires.member.there) ∙ c.requires.member.run)
    c.requires.may_cut.head.there c.requires.may_cut.head.run (λ e. (let a = c.requires.may_cut.behind in omega (arith, a, e))) c.lose.ensures.matches

pub returns-in-None-clause-shrinks : goal.returns-in-None-clause-shrinks
returns-in-None-clause-shrinks c = absurd (none_left (held_at c.args.regions.now c.args.pid c.args.index) c.requires.member.held (c.in-None.ensures.held ∙ c.requires.member.there))

pub returns-in-None-clause-gone : goal.returns-in-None-clause-gone
returns-in-None-clause-gone c = absurd (none_left (held_at c.args.regions.now c.args.pid c.args.index) c.requires.member.held (c.in-None.ensures.held ∙ c.requires.member.there))

pub returns-in-None-clause-matches : goal.returns-in-None-clause-matches
returns-in-None-clause-matches c = absurd (none_left (held_at c.args.regions.now c.args.pid c.args.index) c.requires.member.held (c.in-None.ensures.held ∙ c.requires.member.there))
