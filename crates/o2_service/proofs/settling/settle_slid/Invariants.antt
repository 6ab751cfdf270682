use Rattle.o2_service.specs.Learned.{AreUnused}
use Rattle.o2_service.specs.Told.{AreToldBefore, OnlyTables}
use Rattle.o2_service.proofs.settling.settle_slid.Given as goal

abbrev pub invariant-loop-k : goal.invariant-loop-k
invariant-loop-k l = record {
  told : AreToldBefore l.k l.store l.regions;
  maps : OnlyTables l.initial.regions l.regions;
  unused : AreUnused l.initial.regions → AreUnused l.regions;
}
