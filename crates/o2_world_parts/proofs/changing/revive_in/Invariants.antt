use Rattle.std.proofs.Common.{◌≡◌, ◌++◌, false, map, take, drop}
use Rattle.o2_world.specs.Changes.{marked}
use Rattle.o2_world_parts.specs.Pairs.{keyed}
use Rattle.o2_world_parts.proofs.changing.revive_in.Given as goal

abbrev pub invariant-loop-k : goal.invariant-loop-k
invariant-loop-k l = l.names.items ≡ map (keyed l.name (marked false)) (take l.k l.initial.names.items) ++ drop l.k l.initial.names.items
