use Rattle.std.proofs.Common.{◌≡◌, ◌∷◌}
use Rattle.std.specs.Prelude.{flat_map}
use Rattle.o2_world.specs.Rulings.{indexes}
use Rattle.o2_boundless.specs.Shown.{known_by}
use Rattle.o2_boundless.proofs.Runs.{share_by}
use Rattle.o2_boundless.proofs.world.World.holders.Given as goal

abbrev pub invariant-loop-k : goal.invariant-loop-k
invariant-loop-k l = l.shares.items ≡ (l.number, l.holds) ∷ flat_map (share_by (known_by l.self) l.number l.first) (indexes 1 l.k)
