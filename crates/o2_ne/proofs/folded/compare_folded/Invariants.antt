use Rattle.std.proofs.Common.{◌≡◌, drop}
use Rattle.o2_ne.proofs.FoldedLaws.{compared}
use Rattle.o2_ne.proofs.folded.compare_folded.Given as goal

abbrev pub invariant-loop-i : goal.invariant-loop-i
invariant-loop-i l = compared (drop l.i l.a) (drop l.i l.b) ≡ compared l.a l.b
