use Rattle.std.proofs.Common.{◌≡◌, ◌+◌, ◌++◌, drop}
use Rattle.o2_dynlink.specs.Reached.{marked}
use Rattle.o2_dynlink.proofs.reached.places_of.Given as goal

abbrev pub invariant-loop-i : goal.invariant-loop-i
invariant-loop-i l = l.places.items ++ marked (l.i + 1) (drop l.i l.marks) ≡ marked 1 l.marks
