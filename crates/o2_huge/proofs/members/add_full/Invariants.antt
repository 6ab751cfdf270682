use Rattle.std.proofs.Common.{◌≡◌, ℕ, ◌+◌, ◌<◌, ◌≤◌, ◌∷◌, [], None, replicate}
use Rattle.o2_regions.specs.Maps.{held_at}
use Rattle.o2_world.specs.HugeRulings.{new_members}
use Rattle.o2_world.specs.Rulings.{indexes}
use Rattle.o2_segs.specs.Sharing.{KeepsShares}
use Rattle.o2_huge.specs.Members.{Grows, MatchesWith}
use Rattle.o2_huge.proofs.members.add_full.Given as goal

abbrev pub invariant-loop-place : goal.invariant-loop-place
invariant-loop-place l = record {
  grows : Grows l.initial.store l.store l.initial.regions l.regions l.place 1;
  reserved : l.regions.reserved ≡ l.initial.regions.reserved;
  shares : ((q i : ℕ) → l.run.first ≤ i → i < l.run.first + l.place → 4096 ≤ i → held_at l.initial.regions q i ≡ None) → KeepsShares l.initial.store l.initial.regions l.store l.regions l.initial.store.made;
  others : (q i : ℕ) → l.run.first + l.place ≤ i → held_at l.regions q i ≡ held_at l.initial.regions q i;
  matches : MatchesWith l.initial.store l.store l.initial.regions l.regions l.pid
      (new_members l.initial.store.made l.run.first l.run.count l.flags ((l.pid, 1) ∷ []) (indexes l.run.first l.place) (replicate l.place 0));
}
