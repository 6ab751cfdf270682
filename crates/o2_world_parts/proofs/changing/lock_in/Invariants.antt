use Rattle.std.proofs.Common.{◌≡◌, ◌++◌, map, take, drop}
use Rattle.o2_world_parts.specs.Pairs.{keyed, with_lock}
use Rattle.o2_world_parts.proofs.changing.lock_in.Given as goal

abbrev pub invariant-loop-k : goal.invariant-loop-k
invariant-loop-k l = l.names.items ≡ map (keyed l.name (with_lock l.count)) (take l.k l.initial.names.items) ++ drop l.k l.initial.names.items
