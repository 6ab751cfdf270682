use Rattle.std.proofs.Common.{◌≡◌, drop}
use Rattle.o2_dynlink.specs.Marks.{both_any}
use Rattle.o2_dynlink.proofs.reached.both_any.Given as goal

abbrev pub invariant-loop-i : goal.invariant-loop-i
invariant-loop-i l = both_any (drop l.i l.a) (drop l.i l.b) ≡ both_any l.a l.b
