use Rattle.std.proofs.Common.{◌≡◌, take}
use Rattle.o2_world.specs.SharedNames.{folded}
use Rattle.o2_world_parts.proofs.naming.folded.Given as goal

abbrev pub invariant-loop-letter : goal.invariant-loop-letter
invariant-loop-letter l = l.letters.items ≡ folded (take l.letter-index l.text)
