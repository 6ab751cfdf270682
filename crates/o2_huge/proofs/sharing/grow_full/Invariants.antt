use Rattle.std.proofs.Common.{◌⊎◌, ◌≡◌, ℕ, ◌+◌, ◌<◌, ◌≤◌, ◌∷◌, false, replicate}
use Rattle.o2_desc.specs.Bits.{has_bit}
use Rattle.o2_regions.specs.Maps.{held_at}
use Rattle.o2_world.specs.HugeRulings.{new_members}
use Rattle.o2_world.specs.Rulings.{indexes}
use Rattle.o2_huge.specs.Growth.{shares_in}
use Rattle.o2_segs.specs.Sharing.{KeepsShares}
use Rattle.o2_huge.specs.Members.{Grows, MatchesWith}
use Rattle.o2_huge.proofs.sharing.grow_full.Given as goal

abbrev pub invariant-loop-place : goal.invariant-loop-place
invariant-loop-place l = record {
  grows : Grows l.initial.store l.store l.initial.regions l.regions l.place l.holds;
  shares : KeepsShares l.initial.store l.initial.regions l.store l.regions l.initial.store.made;
  reserved : l.regions.reserved ≡ l.initial.regions.reserved;
  others : (q i : ℕ) → (i < l.from) ⊎ (l.from + l.place ≤ i) → held_at l.regions q i ≡ held_at l.initial.regions q i;
  matches : has_bit l.flags 2 ≡ false → MatchesWith l.initial.store l.store l.initial.regions l.regions l.pid
      (new_members l.initial.store.made l.run.first l.run.count l.flags ((l.pid, l.holds) ∷ shares_in l.initial.regions l.pid l.run.first) (indexes l.from l.place) (replicate l.place 0));
}
