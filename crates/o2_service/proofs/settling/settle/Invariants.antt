use Rattle.o2_service.specs.Told.{AreToldBelow, OnlyTables}
use Rattle.o2_service.proofs.settling.settle.Given as goal

abbrev pub invariant-loop-key : goal.invariant-loop-key
invariant-loop-key l = record {
  told : AreToldBelow l.key l.store l.regions;
  maps : OnlyTables l.initial.regions l.regions;
}
