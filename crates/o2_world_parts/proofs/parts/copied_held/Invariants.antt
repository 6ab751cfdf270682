use Rattle.std.proofs.Common.{◌≡◌, take}
use Rattle.o2_world_parts.proofs.parts.copied_held.Given as goal

abbrev pub invariant-loop-pair : goal.invariant-loop-pair
invariant-loop-pair l = l.copy.items ≡ take l.pair-index l.held
