use Rattle.std.proofs.Common.{◌≡◌, ◌≤◌, ◌-◌, ℕ, List, ◌++◌, replicate}
use Rattle.o2_world_parts.specs.Effects.{ordered}
use Rattle.o2_world_parts.proofs.effect.put_times.Given as goal

abbrev pub invariant-loop-k : goal.invariant-loop-k
invariant-loop-k l = (l.k ≤ l.count) × ((rest : List (ℕ × ℕ)) → l.initial.pairs.items ≡ ordered rest → l.pairs.items ≡ ordered (replicate l.k l.pair ++ rest))

abbrev pub decreases-loop-k : goal.decreases-loop-k
decreases-loop-k l = l.count - l.k
