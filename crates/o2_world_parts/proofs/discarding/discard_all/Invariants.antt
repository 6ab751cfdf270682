use Rattle.std.proofs.Common.{◌≡◌, ◌++◌, map, take, drop}
use Rattle.o2_world_parts.proofs.Gone.{behind}
use Rattle.o2_world_parts.proofs.discarding.discard_all.Given as goal

abbrev pub invariant-loop-k : goal.invariant-loop-k
invariant-loop-k l = l.names.items ≡ map (behind l.processes) (take l.k l.initial.names.items) ++ drop l.k l.initial.names.items
