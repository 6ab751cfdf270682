use Rattle.std.proofs.Common.{◌≤◌}
use Rattle.o2_service.specs.Learned.{AreUnusedBelow, Learns}
use Rattle.o2_service.specs.Told.{IsHeldWell}
use Rattle.o2_service.proofs.learning.learn_process.Given as goal

abbrev pub invariant-loop-round : goal.invariant-loop-round
invariant-loop-round l = record {
  learned : Learns l.initial.store l.store l.initial.regions l.regions;
  held : IsHeldWell l.store l.regions;
  clear : AreUnusedBelow l.regions l.pid l.from;
  rises : l._round ≤ l.from;
}
