use Rattle.std.proofs.Common.{◌≡◌, take}
use Rattle.o2_ne.specs.NameOrder.{places_by}
use Rattle.o2_ne.proofs.sorting.places_by.Given as goal

abbrev pub invariant-loop-i : goal.invariant-loop-i
invariant-loop-i l = l.found.items ≡ places_by l.places (take l.i l.keys)
