use Rattle.std.proofs.Common.{◌⊎◌, ◌≡◌, ℕ, ◌+◌, ◌<◌, ◌≤◌}
use Rattle.o2_regions.specs.Maps.{held_at}
use Rattle.o2_changes.specs.Holding.{KeepsHolds}
use Rattle.o2_world.specs.Rulings.{indexes}
use Rattle.o2_huge.specs.Cuts.{MatchesCut, Shrinks}
use Rattle.o2_huge.proofs.losing.cut.Given as goal

abbrev pub invariant-loop-place : goal.invariant-loop-place
invariant-loop-place l = record {
  shrinks : Shrinks l.initial.store l.store l.initial.regions l.regions;
  others : (q i : ℕ) → (q ≡ l.pid → (i < l.from) ⊎ (l.from + l.place ≤ i)) → held_at l.regions q i ≡ held_at l.initial.regions q i;
  none : l.place ≡ 0 → KeepsHolds l.initial.regions l.regions;
  matches : MatchesCut l.initial.store l.store l.initial.regions l.regions l.pid (indexes l.from l.place);
}
