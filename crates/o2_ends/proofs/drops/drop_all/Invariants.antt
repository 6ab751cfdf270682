use Rattle.std.proofs.Common.{◌≡◌}
use Rattle.std.specs.Prelude.{Some}
use Rattle.o2_regions.specs.declared.held.Held.{Held}
use Rattle.o2_regions.specs.Maps.{IsProcess, held_at}
use Rattle.o2_ends.specs.Drops.{Drops}
use Rattle.o2_ends.proofs.drops.drop_all.Given as goal

abbrev pub invariant-loop-hold : goal.invariant-loop-hold
invariant-loop-hold l = record {
  process : IsProcess l.regions l.pid;
  drops : (was : Held) → held_at l.initial.regions l.pid l.index ≡ Some was → Drops l.initial.regions l.regions l.pid l.index was l._hold;
}
