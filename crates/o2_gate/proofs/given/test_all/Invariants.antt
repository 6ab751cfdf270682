use Rattle.std.proofs.Common.{◌≡◌, ◌≤◌, drop}
use Rattle.o2_world.specs.Slots.{words_in}
use Rattle.o2_gate.specs.declared.pointer.Pointed.{Pointed}
use Rattle.o2_gate.specs.declared.text.TextArgument.{TextArgument}
use Rattle.o2_gate.specs.Given.{IsTextIn, pointers_by, word_in}
use Rattle.o2_gate.specs.Pointed.{Tells}
use Rattle.o2_gate.specs.Small.{texts_in}
use Rattle.o2_gate.proofs.given.test_all.Given as goal

abbrev pub invariant-loop-slot : goal.invariant-loop-slot
invariant-loop-slot g l = record {
  place : l.place ≡ words_in (drop l.slot-index l.slots);
  -- what the rest tells, all tell
  tells : (r : Pointed) → Tells (g.B.Bus.view l.initial.bus) (pointers_by (drop l.slot-index l.slots) (word_in l.words)) r
      → Tells (g.B.Bus.view l.initial.bus) (pointers_by l.slots (word_in l.words)) r;
  text : (t : TextArgument) → (texts_in (drop l.slot-index l.slots) ≡ 0 → t ≡ l.text)
      → IsTextIn (g.B.Bus.view l.initial.bus) (word_in l.words) t (drop l.slot-index l.slots)
      → IsTextIn (g.B.Bus.view l.initial.bus) (word_in l.words) t l.slots;
  one : texts_in (drop l.slot-index l.slots) ≤ 1;
  few : l.place ≤ 6;
  same : g.B.Bus.view l.bus ≡ g.B.Bus.view l.initial.bus;
}
