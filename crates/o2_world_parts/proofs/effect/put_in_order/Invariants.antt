use Rattle.std.proofs.Common.{◌≡◌, ◌++◌, take, drop}
use Rattle.o2_world_parts.specs.Effects.{among_pairs}
use Rattle.o2_world_parts.proofs.effect.put_in_order.Given as goal

abbrev pub invariant-loop-k : goal.invariant-loop-k
invariant-loop-k l = (l.pairs.items ≡ l.initial.pairs.items) × (among_pairs l.pair l.pairs.items ≡ take l.k l.pairs.items ++ among_pairs l.pair (drop l.k l.pairs.items))
