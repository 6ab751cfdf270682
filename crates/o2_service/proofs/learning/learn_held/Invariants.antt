use Rattle.o2_service.specs.Learned.{AreUnusedTo, Learns}
use Rattle.o2_service.specs.Told.{IsHeldWell}
use Rattle.o2_service.proofs.learning.learn_held.Given as goal

abbrev pub invariant-loop-pid : goal.invariant-loop-pid
invariant-loop-pid l = record {
  learned : Learns l.initial.store l.store l.initial.regions l.regions;
  held : IsHeldWell l.store l.regions;
  clear : AreUnusedTo l.regions l.pid;
}
