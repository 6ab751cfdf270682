use Rattle.std.proofs.Common.{◌≡◌, ◌∷◌, take}
use Rattle.o2_world.specs.Slots.{parts_in, values_in}
use Rattle.o2_boundless.proofs.outcome.by_heap.Given as goal

abbrev pub invariant-loop-slot : goal.invariant-loop-slot
invariant-loop-slot l = (l.values.items ≡ values_in (take l.slot-index l.slots) l.answer.value) × (l.parts.items ≡ l.fn.bytes.items ∷ parts_in (take l.slot-index l.slots) l.answer.value)
