use Rattle.std.proofs.Common.{◌≡◌, take}
use Rattle.o2_image.specs.Alike.{chosen}
use Rattle.o2_image.proofs.sharing.chosen.Given as goal

abbrev pub invariant-loop-i : goal.invariant-loop-i
invariant-loop-i l = l.found.items ≡ chosen l.parts (take l.i l.places)
