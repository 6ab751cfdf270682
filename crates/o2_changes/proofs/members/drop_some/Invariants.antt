use Rattle.std.proofs.Common.{◌≡◌}
use Rattle.o2_changes.specs.Holding.{TakesSome}
use Rattle.o2_changes.specs.Order.{IsInOrder}
use Rattle.o2_changes.proofs.members.drop_some.Given as goal

abbrev pub invariant-loop-hold : goal.invariant-loop-hold
invariant-loop-hold l = record {
  takes : TakesSome l.initial.regions l.regions l.pid l.index l._hold;
  reserved : l.regions.reserved ≡ l.initial.regions.reserved;
  order : IsInOrder l.store l.regions;
}
