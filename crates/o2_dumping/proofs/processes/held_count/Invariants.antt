use Rattle.std.proofs.Common.{◌≡◌, ◌≤◌, length}
use Rattle.o2_store.specs.Shelf.{Shelf}
use Rattle.o2_dumping.specs.Told.{held_from}
use Rattle.o2_dumping.proofs.processes.held_count.Given as goal

abbrev pub invariant-loop-index : goal.invariant-loop-index
invariant-loop-index l = record {
  counted : (s : Shelf) → l.count ≡ length (held_from s l.regions l.pid 0 l.index);
  most : l.count ≤ l.index;
}
