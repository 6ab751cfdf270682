use Rattle.std.proofs.Common.{◌≡◌, ◌≤◌, length, drop}
use Rattle.o2_world.specs.Slots.{words_in}
use Rattle.o2_world_parts.specs.Layouts.{placed}
use Rattle.o2_world_parts.proofs.slots.layout_of.Given as goal

abbrev pub invariant-loop-k : goal.invariant-loop-k
invariant-loop-k l = (l.k ≤ length l.slots) × (l.all.items ≡ placed (drop l.k l.slots)) × (l.words ≡ words_in (drop l.k l.slots))

abbrev pub decreases-loop-k : goal.decreases-loop-k
decreases-loop-k l = l.k
