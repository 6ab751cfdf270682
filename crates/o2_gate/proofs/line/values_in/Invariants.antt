use Rattle.std.proofs.Common.{◌≡◌, ◌+◌, ◌*◌, ◌≤◌, ◌++◌, drop, length}
use Rattle.o2_world.specs.Slots.{values_in, words_in}
use Rattle.o2_gate.specs.Replies.{FitsIn}
use Rattle.o2_gate.proofs.line.values_in.Given as goal

abbrev pub invariant-loop-slot : goal.invariant-loop-slot
invariant-loop-slot l = record {
  values : l.values ++ values_in (drop l.slot-index l.slots) l.value ≡ values_in l.slots l.value;
  few : 2 * length l.values + words_in (drop l.slot-index l.slots) ≤ 6;
  fits : FitsIn (drop l.slot-index l.slots) l.value;
}
