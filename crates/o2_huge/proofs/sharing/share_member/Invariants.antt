use Rattle.std.proofs.Common.{◌≡◌, ◌≢◌, ℕ, ◌<◌}
use Rattle.std.specs.Prelude.{flat_map}
use Rattle.o2_regions.specs.Maps.{held_at}
use Rattle.o2_world.specs.HugeRulings.{all_hold}
use Rattle.o2_world.specs.Rulings.{indexes}
use Rattle.o2_huge.specs.Growth.{share_by}
use Rattle.o2_huge.specs.Members.{Brings, Grows, MatchesWith}
use Rattle.o2_huge.proofs.sharing.share_member.Given as goal

abbrev pub invariant-loop-before : goal.invariant-loop-before
invariant-loop-before l = record {
  grows : Grows l.store l.store l.initial.regions l.regions 0 0;
  brings : Brings l.initial.regions l.regions l.index l.id;
  reserved : l.regions.reserved ≡ l.initial.regions.reserved;
  others : (q i : ℕ) → i ≢ l.index → held_at l.regions q i ≡ held_at l.initial.regions q i;
  later : (q : ℕ) → l.before < q → held_at l.regions q l.index ≡ held_at l.initial.regions q l.index;
  matches : MatchesWith l.store l.store l.initial.regions l.regions l.pid
      (all_hold l.id.age l.run.first l.run.count l.index (flat_map (share_by l.initial.regions l.pid l.run.first) (indexes 1 l.before)));
}
