use Rattle.std.proofs.Common.{◌≡◌}
use Rattle.o2_world.specs.Rulings.{indexes}
use Rattle.o2_boundless.proofs.huge.indexes.Given as goal

abbrev pub invariant-loop-k : goal.invariant-loop-k
invariant-loop-k l = l.all.items ≡ indexes l.first l.k
