use Rattle.std.proofs.Common.{◌≡◌, ℕ, ◌≤◌, true, drop}
use Rattle.o2_bus.specs.Writes.{WritesHeld}
use Rattle.o2_isa.specs.Pointers.{KeepsAllButBytes}
use Rattle.o2_isa.specs.View.{Filling, whole}
use Rattle.o2_world.specs.Slots.{parts_in, put_all, targets_in, words_in}
use Rattle.o2_gate.specs.Given.{word_in}
use Rattle.o2_gate.specs.Pointed.{are_ready}
use Rattle.o2_gate.specs.Replies.{FitsIn}
use Rattle.o2_gate.proofs.value.store_value.Given as goal

abbrev pub invariant-loop-slot : goal.invariant-loop-slot
invariant-loop-slot g l = record {
  place : l.place ≡ words_in (drop l.slot-index l.slots);
  few : l.place ≤ 6;
  ready : are_ready (g.B.Bus.view l.bus) (targets_in (drop l.slot-index l.slots) (word_in l.words)) ≡ true;
  fits : FitsIn (drop l.slot-index l.slots) l.value;
  bytes : (f : Filling) (n : ℕ)
      → put_all (g.B.Bus.view l.initial.bus).held (targets_in (drop l.slot-index l.slots) (word_in l.words)) (parts_in (drop l.slot-index l.slots) l.value) (whole f (g.B.Bus.view l.bus)).bytes n
      ≡ put_all (g.B.Bus.view l.initial.bus).held (targets_in l.slots (word_in l.words)) (parts_in l.slots l.value) (whole f (g.B.Bus.view l.initial.bus)).bytes n;
  frame : KeepsAllButBytes (g.B.Bus.view l.initial.bus) (g.B.Bus.view l.bus);
  writes : WritesHeld (g.B.Bus.view l.initial.bus) (g.B.Bus.view l.bus);
}
