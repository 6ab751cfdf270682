use Rattle.std.proofs.Common.{◌≡◌, ◌++◌, map, take, drop}
use Rattle.o2_world_parts.specs.Pairs.{keyed, with_size}
use Rattle.o2_world_parts.proofs.changing.resize_in.Given as goal

abbrev pub invariant-loop-k : goal.invariant-loop-k
invariant-loop-k l = l.names.items ≡ map (keyed l.name (with_size l.size)) (take l.k l.initial.names.items) ++ drop l.k l.initial.names.items
