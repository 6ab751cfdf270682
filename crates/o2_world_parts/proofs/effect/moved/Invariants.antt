use Rattle.std.proofs.Common.{◌≡◌, ◌≤◌, length, drop}
use Rattle.o2_world_parts.specs.Edits.{changes_of}
use Rattle.o2_world_parts.specs.Effects.{pairs_of, ordered}
use Rattle.o2_world_parts.proofs.effect.moved.Given as goal

abbrev pub invariant-loop-k : goal.invariant-loop-k
invariant-loop-k l = (l.k ≤ length l.edits) × (l.pairs.items ≡ ordered (pairs_of l.came (changes_of (drop l.k l.edits))))

abbrev pub decreases-loop-k : goal.decreases-loop-k
decreases-loop-k l = l.k
