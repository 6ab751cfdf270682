use Rattle.std.proofs.Common.{◌≡◌, true, length}
use Rattle.o2_isa.specs.View.{Filling, IsBound}
use Rattle.o2_world.specs.Calls.{argument, has_arguments}
use Rattle.o2_gate.specs.Befores.{boundless}
use Rattle.o2_gate.specs.Given.{AreSame, word_in}
use Rattle.o2_gate.proofs.stack.words.Given as goal

abbrev pub invariant-loop-i : goal.invariant-loop-i
invariant-loop-i g l = record {
  has : (f : Filling) → IsBound (g.B.Bus.view l.bus) → has_arguments (boundless f (g.B.Bus.view l.bus)) l.cpu l.i ≡ true;
  same : (f : Filling) → IsBound (g.B.Bus.view l.bus) → AreSame l.i (argument (boundless f (g.B.Bus.view l.bus)) l.cpu) (word_in l.words);
  size : length l.words ≡ 6;
}
