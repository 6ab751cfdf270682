use Rattle.std.proofs.Common.{◌≤◌, length}
use Rattle.o2_outer.specs.Devices.{mem_blocks}
use Rattle.o2_store.specs.Trials.{IsReady}
use Rattle.test_store.proofs.plain.rounds_of.Given as goal

abbrev pub invariant-loop-round : goal.invariant-loop-round
invariant-loop-round l = record {
  ready : IsReady l.store l.images (length (mem_blocks l.swap));
  few : l.store.made ≤ l._round;
}
