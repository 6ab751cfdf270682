use Rattle.std.proofs.Common.{◌≡◌, ◌+◌, ◌≤◌, ◌++◌, drop, length}
use Rattle.o2_world.specs.Slots.{shown_in, words_in}
use Rattle.o2_gate.specs.Given.{word_in}
use Rattle.o2_gate.proofs.line.shown_in.Given as goal

abbrev pub invariant-loop-slot : goal.invariant-loop-slot
invariant-loop-slot l = record {
  place : l.place ≡ words_in (drop l.slot-index l.slots);
  shown : l.shown ++ shown_in (drop l.slot-index l.slots) (word_in l.words) ≡ shown_in l.slots (word_in l.words);
  few : length l.shown + l.place ≤ 6;
}
