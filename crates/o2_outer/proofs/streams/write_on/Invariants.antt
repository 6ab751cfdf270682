use Rattle.std.proofs.Common.{◌-◌, ◌≤◌, length, take}
use Rattle.o2_outer.specs.Texts.{Gains}
use Rattle.o2_outer.proofs.streams.write_on.Given as goal

abbrev pub invariant-loop-written : goal.invariant-loop-written
invariant-loop-written g l = record {
  within : l.written ≤ length l.piece;
  gains : Gains (g.W.Write.contents l.fn.stream) (g.W.Write.contents l.stream) (take l.written l.piece);
}

abbrev pub decreases-loop-written : goal.decreases-loop-written
decreases-loop-written g l = length l.piece - l.written
