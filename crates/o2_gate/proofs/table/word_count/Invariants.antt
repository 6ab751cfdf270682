use Rattle.std.proofs.Common.{◌≡◌, ◌+◌, drop}
use Rattle.o2_world.specs.Slots.{words_in}
use Rattle.o2_gate.proofs.table.word_count.Given as goal

abbrev pub invariant-loop-slot : goal.invariant-loop-slot
invariant-loop-slot l = record { sum : l.count + words_in (drop l.slot-index l.slots) ≡ words_in l.slots }
