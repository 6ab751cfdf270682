use Rattle.std.proofs.Common.{◌≡◌, ◌+◌, ◌*◌, ◌≤◌, ◌++◌, drop, length, map}
use Rattle.o2_world.specs.Slots.{Pointer, words_in}
use Rattle.o2_gate.specs.Given.{word_in}
use Rattle.o2_gate.specs.Targets.{looked_in, target_in, targets}
use Rattle.o2_gate.proofs.selectors.selectors_of.Given as goal

abbrev pub invariant-loop-slot : goal.invariant-loop-slot
invariant-loop-slot l = record {
  place : l.place ≡ words_in (drop l.slot-index l.slots);
  all : l.all ++ map (λ (p : Pointer). p.selector) (target_in (drop l.slot-index l.slots) (looked_in l.arguments.request) (word_in l.arguments.words))
      ≡ map (λ (p : Pointer). p.selector) (targets l.arguments);
  few : 2 * length l.all + l.place ≤ 6;
}
