use Rattle.std.proofs.Common.{◌≡◌, ℕ, map, take}
use Rattle.o2_world.specs.Changes.{Drops}
use Rattle.o2_world_parts.specs.Edits.{changes_of}
use Rattle.o2_boundless.proofs.rulings.drops.Given as goal

abbrev pub invariant-loop-index : goal.invariant-loop-index
invariant-loop-index l = changes_of l.edits.items ≡ map (λ (i : ℕ). Drops l.number i 1) (take l.index-index l.indexes)
