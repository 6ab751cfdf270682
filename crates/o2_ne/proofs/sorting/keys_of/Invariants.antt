use Rattle.std.proofs.Common.{◌≡◌, take}
use Rattle.o2_ne.specs.NameOrder.{places_by}
use Rattle.o2_ne.proofs.sorting.keys_of.Given as goal

abbrev pub invariant-loop-i : goal.invariant-loop-i
invariant-loop-i l = places_by l.places l.keys.items ≡ take l.i l.places
