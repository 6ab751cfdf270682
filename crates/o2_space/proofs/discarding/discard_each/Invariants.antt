use Rattle.std.proofs.Common.{◌≡◌, ℕ}
use Rattle.o2_changes.specs.Frames.{KeepsOrder}
use Rattle.o2_entries.specs.Tables.{slot_at}
use Rattle.o2_segs.specs.Limits.{KeepsLimits}
use Rattle.o2_service.specs.Told.{OnlyTables}
use Rattle.o2_stands.specs.Parts.{Parts}
use Rattle.o2_stands.specs.Stands.{Matches}
use Rattle.o2_store.specs.Needs.{has_age}
use Rattle.o2_world.specs.World.{World}
use Rattle.o2_space.specs.Parts.{running_at}
use Rattle.o2_space.specs.Words.{discarded_where, is_below}
use Rattle.o2_space.proofs.discarding.discard_each.Given as goal

abbrev pub invariant-loop-key : goal.invariant-loop-key
invariant-loop-key l = record {
  limits : KeepsLimits l.initial.store l.initial.regions l.store l.regions 0;
  ages : (k q : ℕ) → has_age (slot_at l.store.entries k) q ≡ has_age (slot_at l.initial.store.entries k) q;
  maps : OnlyTables l.initial.regions l.regions;
  goes_on : KeepsOrder l.initial.store l.initial.regions l.store l.regions;
  matches : (p : Parts) (w : World) → p.shelf ≡ l.initial.store → p.maps ≡ l.initial.regions → p.running ≡ running_at l.procs → Matches p w
      → Matches (record p { shelf = l.store; maps = l.regions }) (record w { names = discarded_where (is_below l.initial.store l.key) w.processes w.names });
}
