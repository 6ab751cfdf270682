use Rattle.std.proofs.Common.{◌≡◌, ℕ, filter}
use Rattle.std.specs.Prelude.{is_some}
use Rattle.o2_world.specs.Rulings.{indexes}
use Rattle.o2_boundless.specs.Shown.{known_by}
use Rattle.o2_boundless.proofs.world.World.members.Given as goal

abbrev pub invariant-loop-k : goal.invariant-loop-k
invariant-loop-k l = l.indexes.items ≡ filter (λ (i : ℕ). is_some ((known_by l.self).held l.number i)) (indexes l.held-inside.first l.k)
