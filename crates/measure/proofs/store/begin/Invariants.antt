use Rattle.std.proofs.Common.{◌≤◌}
use Rattle.o2_outer.specs.Devices.{swap_blocks}
use Rattle.o2_store.specs.Trials.{IsReady}
use Rattle.measure.proofs.store.begin.Given as goal

abbrev pub invariant-loop-round : goal.invariant-loop-round
invariant-loop-round l = record {
  ready : IsReady l.store l.images (swap_blocks l.swap);
  few : l.store.made ≤ l._round;
}
