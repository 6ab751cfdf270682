use Rattle.std.proofs.Common.{◌≡◌, arith, subst, sym, get_or}
use Rattle.std.proofs.lemmas.List.{get_or_read}
use Rattle.o2_place.specs.Marks.{IsVictim, IsNext}
use Rattle.o2_place.proofs.MarkLemmas.{all_kept, kept_round_none, chosen_victim, chosen_next, chosen_round}
use Rattle.o2_place.proofs.clock.Clock.victim.Goals as goal

pub returns-in_default-clause-none : goal.returns-in_default-clause-none
returns-in_default-clause-none c =
    let i = c.self.inside in
    rw (← c.self.view_is) (all_kept i.marks.items i.ring.items i.turns.items c.args.keep.now i.count i.hand c.self.invariant.0 (rw c.deref.ensures.value at c.in_default.ensures.none))

pub returns-in_default-clause-round : goal.returns-in_default-clause-round
returns-in_default-clause-round c =
    let i = c.self.inside in
    rw (← c.self.view_is) (kept_round_none i.marks.items c.choose.new.marks.items i.ring.items i.turns.items c.args.keep.now i.count i.hand c.self.invariant.0 (rw c.deref.ensures.value at c.in_default.ensures.none))

pub returns-clause-some : goal.returns-clause-some
returns-clause-some c =
    let i = c.self.inside in
    let h = c.self.invariant.0 in
    let s = rw c.deref.ensures.value at c.in-Some.ensures.some in
    let e : get_or i.ring.items c.in-Some.place 0 ≡ c.index.result.now = sym (get_or_read i.ring.items c.in-Some.place c.index.result.now (omega (arith, s.below, h.some, h.cycle.ring_long)) c.index.ensures 0) in
    rw (← c.self.view_is) (subst (IsVictim i.marks.items c.args.keep.now) e (chosen_victim i.marks.items c.choose.new.marks.items i.ring.items i.turns.items c.args.keep.now i.count i.hand c.in-Some.place h s))

pub returns-clause-next : goal.returns-clause-next
returns-clause-next c =
    let i = c.self.inside in
    let h = c.self.invariant.0 in
    let s = rw c.deref.ensures.value at c.in-Some.ensures.some in
    let e : get_or i.ring.items c.in-Some.place 0 ≡ c.index.result.now = sym (get_or_read i.ring.items c.in-Some.place c.index.result.now (omega (arith, s.below, h.some, h.cycle.ring_long)) c.index.ensures 0) in
    rw (← c.self.view_is) (subst (IsNext (record { marks = i.marks.items; places = i.turns.items; hand = i.hand }) c.choose.new.marks.items
    c.args.keep.now) e (chosen_next i.marks.items c.choose.new.marks.items i.ring.items i.turns.items c.args.keep.now i.count i.hand
    c.in-Some.place h s))

pub returns-clause-round : goal.returns-clause-round
returns-clause-round c =
    let i = c.self.inside in
    let s = rw c.deref.ensures.value at c.in-Some.ensures.some in
    rw (← c.self.view_is) (chosen_round i.marks.items c.choose.new.marks.items i.ring.items i.turns.items c.args.keep.now i.count i.hand c.in-Some.place c.self.invariant.0 s)
