use Rattle.std.proofs.Common.{◌≤◌, ◌-◌}
use Rattle.std.specs.Prelude.{nat_lt}
use Rattle.o2_regions.specs.Maps.{IsProcess}
use Rattle.o2_store.specs.Idle.{NoneTaken}
use Rattle.o2_service.specs.Told.{IsHeldWell}
use Rattle.o2_ends.specs.LetsGo.{LetsGo, Sheds}
use Rattle.o2_ends.proofs.Freed.{FreesBelow}
use Rattle.o2_ends.proofs.Letting.{AreEmpty}
use Rattle.o2_ends.proofs.ending.let_go.Given as goal

abbrev pub invariant-loop-index : goal.invariant-loop-index
invariant-loop-index l = record {
  process : IsProcess l.regions l.pid;
  low : l.from ≤ 8192;
  maps : LetsGo l.initial.regions l.regions l.pid (λ i. nat_lt i l.from);
  frees : FreesBelow l.initial.regions l.regions l.pid l.from;
  store : Sheds l.initial.store l.initial.regions l.store l.regions;
  unused : NoneTaken l.initial.store.swap → NoneTaken l.store.swap;
  held : IsHeldWell l.store l.regions;
  bare : AreEmpty l.regions;
}

abbrev pub decreases-loop-index : goal.decreases-loop-index
decreases-loop-index l = 8192 - l.from
