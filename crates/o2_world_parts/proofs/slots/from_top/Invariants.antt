use Rattle.std.proofs.Common.{◌≡◌, ◌++◌}
use Rattle.o2_world_parts.specs.Layouts.{from_top}
use Rattle.o2_world_parts.proofs.slots.from_top.Given as goal

abbrev pub invariant-loop-k : goal.invariant-loop-k
invariant-loop-k l = l.all.items ++ from_top l.k l.args ≡ from_top l.words l.args

abbrev pub decreases-loop-k : goal.decreases-loop-k
decreases-loop-k l = l.k
