use Rattle.std.proofs.Common.{◌≡◌, ℕ, Bool, take}
use Rattle.o2_bus.specs.Writes.{WritesHeld}
use Rattle.o2_isa.specs.Pointers.{is_ready, put_at_pointer, KeepsAllButBytes}
use Rattle.o2_isa.specs.View.{Filling, whole}
use Rattle.o2_world.specs.Heaps.{put_words}
use Rattle.o2_gate.specs.Heaps.{front_of}
use Rattle.o2_gate.proofs.heap.follow.Given as goal

abbrev pub invariant-loop-at : goal.invariant-loop-at
invariant-loop-at g l = record {
  -- the words before this one are written
  bytes : (f : Filling) (n : ℕ) → (whole f (g.B.Bus.view l.bus)).bytes n
      ≡ put_at_pointer (g.B.Bus.view l.initial.bus).held (whole f (g.B.Bus.view l.initial.bus)).bytes l.selector 0
      (put_words (front_of f (g.B.Bus.view l.initial.bus) l.selector) (take l.at l.plan.words)) n;
  frame : KeepsAllButBytes (g.B.Bus.view l.initial.bus) (g.B.Bus.view l.bus);
  writes : WritesHeld (g.B.Bus.view l.initial.bus) (g.B.Bus.view l.bus);
  ready : (ok : ℕ → Bool) (s o n : ℕ) → is_ready ok (g.B.Bus.view l.bus) s o n ≡ is_ready ok (g.B.Bus.view l.initial.bus) s o n;
}
