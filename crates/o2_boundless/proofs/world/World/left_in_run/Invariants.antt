use Rattle.std.proofs.Common.{◌≡◌, filter}
use Rattle.o2_world.specs.HugeRulings.{is_unheld}
use Rattle.o2_world.specs.Rulings.{indexes}
use Rattle.o2_boundless.specs.Shown.{known_by}
use Rattle.o2_boundless.proofs.world.World.left_in_run.Given as goal

abbrev pub invariant-loop-k : goal.invariant-loop-k
invariant-loop-k l = l.left.items ≡ filter (is_unheld (known_by l.self) l.number) (indexes l.held-inside.first l.k)
