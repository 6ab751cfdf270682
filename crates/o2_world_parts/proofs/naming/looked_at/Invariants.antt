use Rattle.std.proofs.Common.{◌≡◌, ◌+◌, ◌-◌, drop}
use Rattle.o2_world.specs.SharedNames.{looked_at}
use Rattle.o2_world_parts.proofs.naming.looked_at.Given as goal

abbrev pub invariant-loop-k : goal.invariant-loop-k
invariant-loop-k l = looked_at 129 l.bytes ≡ l.k + looked_at (129 - l.k) (drop l.k l.bytes)
