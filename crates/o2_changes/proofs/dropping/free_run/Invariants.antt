use Rattle.std.proofs.Common.{◌≡◌}
use Rattle.o2_changes.specs.Order.{IsInOrder}
use Rattle.o2_changes.proofs.FreeingRuns.{FreesBelow}
use Rattle.o2_changes.proofs.dropping.free_run.Given as goal

abbrev pub invariant-loop-index : goal.invariant-loop-index
invariant-loop-index l = record {
  frees : FreesBelow l.initial.regions l.regions l.pid l.first l.index;
  tables : l.regions ≡ record l.initial.regions { reserved = l.regions.reserved };
  order : IsInOrder l.store l.regions;
}
