use Rattle.std.proofs.Common.{ℕ, inl, ◌+◌, ◌-◌, Option, IsSome, ap, arith, refl, subst, sym, ◌∙◌}
use Rattle.o2_world.specs.HugeRulings.{segments_of, without}
use Rattle.o2_world.specs.Rulings.{indexes}
use Rattle.o2_huge.specs.Cuts.{MatchesCut}
use Rattle.o2_huge.proofs.Changing.{cut_holds, cut_matches, grown_matches, without_none}
use Rattle.o2_huge.proofs.Growing.{make_fewer}
use Rattle.o2_huge.proofs.Keeping.{few_held, limits_grown, limits_shrunk}
use Rattle.o2_huge.proofs.Stretch.{more_wanted}
use Rattle.o2_huge.proofs.reallocating.change_members.Goals as goal

pub grow-requires-clause-inside : goal.grow-requires-clause-inside
grow-requires-clause-inside c =
    let w = c.wanted_of-wanted.ensures in
    let more = more_wanted c.args.there c.args.segs c.args.part (let l = c.if-there-wanted.true in omega (arith, l, w)) in
    let a = c.requires.holds_run.inside in
    let b = c.requires.may_have.enough in
    let l = c.if-there-wanted.true in
    omega (arith, w, more, a, b, l)

pub grow-requires-clause-vacant : goal.grow-requires-clause-vacant
grow-requires-clause-vacant c = λ i low high.
    (let w = c.wanted_of-wanted.ensures in
    let l = c.if-there-wanted.true in
    let more = more_wanted c.args.there c.args.segs c.args.part (omega (arith, l, w)) in
    c.requires.may_have.vacant i low (omega (arith, high, more, l, w)))

pub grow-requires-clause-may_make : goal.grow-requires-clause-may_make
grow-requires-clause-may_make c =
    let w = c.wanted_of-wanted.ensures in
    let l = c.if-there-wanted.true in
    let more = more_wanted c.args.there c.args.segs c.args.part (omega (arith, l, w)) in
    make_fewer c.args.store.now c.args.regions.now c.args.pid (segments_of c.args.segs c.args.part - c.args.there) (segments_of (c.args.segs - c.args.there) c.args.part) c.requires.may_make (omega (arith, more))

pub returns-then-there-wanted-clause-matches : goal.returns-then-there-wanted-clause-matches
returns-then-there-wanted-clause-matches c =
    let w = c.wanted_of-wanted.ensures in
    let l = c.if-there-wanted.true in
    grown_matches c.args.store.now c.grow.new.store c.args.regions.now c.grow.new.regions c.args.pid c.args.run.first c.args.run.count c.args.there c.args.segs c.args.part c.flags_of-flags.result c.args.first.holds c.args.first
    (omega (arith, l, w)) c.requires.holds_run.held c.flags_of-flags.ensures refl c.grow.ensures.matches

pub returns-then-there-wanted-clause-registers : goal.returns-then-there-wanted-clause-registers
returns-then-there-wanted-clause-registers c =
    let w = c.wanted_of-wanted.ensures in
    let l = c.if-there-wanted.true in
    without_none c.args.cpu.now (c.args.run.first + segments_of c.args.segs c.args.part) (c.args.there - segments_of c.args.segs c.args.part) (omega (arith, l, w))

pub returns-then-there-wanted-clause-limits : goal.returns-then-there-wanted-clause-limits
returns-then-there-wanted-clause-limits c =
    let w = c.wanted_of-wanted.ensures in
    let l = c.if-there-wanted.true in
    let more = more_wanted c.args.there c.args.segs c.args.part (omega (arith, l, w)) in
    let b = c.requires.may_have.enough in
    let d = c.requires.may_have.short in
    let m = c.args.regions.now in
    let h = c.args.first in
    limits_grown c.args.store.now c.grow.new.store m c.grow.new.regions (segments_of (c.args.segs - c.args.there) c.args.part) h.holds 4096 c.grow.ensures.grows (omega (arith, more, b, d))
    (λ k some was. c.grow.ensures.grows.few k (few_held m c.args.pid c.args.run.first k h c.requires.holds_run.held was) was) c.grow.ensures.shares

pub returns-then-there-wanted-clause-holds : goal.returns-then-there-wanted-clause-holds
returns-then-there-wanted-clause-holds c = inl c.grow.ensures.grows.holds

pub returns-then-there-wanted-clause-processes : goal.returns-then-there-wanted-clause-processes
returns-then-there-wanted-clause-processes c = c.grow.ensures.grows.holds.processes

pub returns-then-there-wanted-clause-kept : goal.returns-then-there-wanted-clause-kept
returns-then-there-wanted-clause-kept c = λ k some here. c.grow.ensures.grows.kept k here

pub cut-requires-clause-may_cut : goal.cut-requires-clause-may_cut
cut-requires-clause-may_cut c = record {
  process = c.requires.may_make.process;
  behind = (let w = c.wanted_of-wanted.ensures in let some = c.requires.may_have.wanted in omega (arith, w, some));
  head = (let some = c.requires.holds_run.some in c.requires.holds_run.all c.args.run.first (omega arith) (omega (arith, some)));
  order = c.requires.may_make.order;
}

pub cut-requires-clause-members : goal.cut-requires-clause-members
cut-requires-clause-members c = λ i low high.
    (let l = c.if-there-wanted.false in
    c.requires.holds_run.all i (omega (arith, low)) (omega (arith, high, l)))

pub returns-clause-matches : goal.returns-clause-matches
returns-clause-matches c =
    let w = c.wanted_of-wanted.ensures in
    let l = c.if-there-wanted.false in
    cut_matches c.args.store.now c.cut.new.store c.args.regions.now c.cut.new.regions c.args.pid c.args.run.first c.args.run.count c.args.there c.args.segs c.args.part (omega (arith, l, w))
    (subst (λ (n : ℕ). MatchesCut c.args.store.now c.cut.new.store c.args.regions.now c.cut.new.regions c.args.pid (indexes (c.args.run.first + n) (c.args.there - n))) w c.cut.ensures.matches)

pub returns-clause-registers : goal.returns-clause-registers
returns-clause-registers c = c.clear.ensures ∙ ap (λ (n : ℕ). without c.args.cpu.now (indexes (c.args.run.first + n) (c.args.there - n))) c.wanted_of-wanted.ensures

pub returns-clause-limits : goal.returns-clause-limits
returns-clause-limits c = limits_shrunk c.args.store.now c.cut.new.store c.args.regions.now c.cut.new.regions 4096 c.cut.ensures.shrinks

pub returns-clause-holds : goal.returns-clause-holds
returns-clause-holds c =
    let w = c.wanted_of-wanted.ensures in
    let l = c.if-there-wanted.false in
    cut_holds c.args.store.now c.args.regions.now c.cut.new.regions c.args.pid c.args.run.first c.args.run.count c.args.there c.args.segs c.args.part (omega (arith, l, w)) c.requires.holds_run.all
    (λ none. c.cut.ensures.none (omega (arith, none, w)))

pub returns-clause-processes : goal.returns-clause-processes
returns-clause-processes c = c.cut.ensures.shrinks.processes

pub returns-clause-kept : goal.returns-clause-kept
returns-clause-kept c = λ k some here. subst (λ (o : Option (ℕ × ℕ)). IsSome o) (sym (c.cut.ensures.shrinks.places k some)) here

pub grow-requires-clause-some : goal.grow-requires-clause-some
grow-requires-clause-some c = c.law.ensures.counted c.args.pid c.args.run.first c.args.first c.requires.holds_run.held

pub returns-then-there-wanted-clause-goes_on : goal.returns-then-there-wanted-clause-goes_on
returns-then-there-wanted-clause-goes_on c = c.grow.ensures.grows.goes_on

pub returns-clause-goes_on : goal.returns-clause-goes_on
returns-clause-goes_on c = c.cut.ensures.shrinks.goes_on
