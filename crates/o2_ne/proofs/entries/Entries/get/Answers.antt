use Rattle.std.proofs.Common.{arith, sym, ◌∙◌}
use Rattle.o2_ne.specs.EntrySlots.{named_ordinals}
use Rattle.o2_ne.proofs.SlotSteps.{defined, not_lost, undefined}
use Rattle.o2_ne.proofs.entries.Entries.get.Goals as goal

pub returns-then-slot-eq0 : goal.returns-then-slot-eq0
returns-then-slot-eq0 c =
    let slot = rw c.as_slice.ensures.value at c.slot_at-slot.ensures in
    rw (← c.self.view_is) (sym (undefined named_ordinals _ _ c.args.ordinal c.self.invariant.1 (omega arith) (sym slot ∙ c.if-slot-eq0.true)))

pub returns : goal.returns
returns c =
    let slot = rw c.as_slice.ensures.value at c.slot_at-slot.ensures in
    let at = rw (c.as_slice-2.ensures.value, slot) at c.in-Some.ensures in
    rw (← c.self.view_is)
    (sym (defined named_ordinals _ _ c.args.ordinal c.in-Some.entry c.self.invariant.1 (omega arith) (λ e. c.if-slot-eq0.false (slot ∙ e)) (sym at)))

pub unreachable-requires : goal.unreachable-requires
unreachable-requires c =
    let slot = rw c.as_slice.ensures.value at c.slot_at-slot.ensures in
    let at = rw (c.as_slice-2.ensures.value, slot) at c.in-None.ensures in
    not_lost named_ordinals _ _ c.args.ordinal c.self.invariant.1 (omega arith) (λ e. c.if-slot-eq0.false (slot ∙ e)) (sym at)
