use Rattle.std.proofs.Common.{◌≡◌}
use Rattle.o2_changes.specs.Holding.{KeepsPlaces}
use Rattle.o2_segs.specs.Limits.{KeepsLimits}
use Rattle.o2_segs.specs.Members.{MatchesBelow, TakesBelow}
use Rattle.o2_changes.specs.Frames.{KeepsOrder}
use Rattle.o2_segs.proofs.freeing.drop_members.Given as goal

abbrev pub invariant-loop-index : goal.invariant-loop-index
invariant-loop-index l = record {
  takes : TakesBelow l.initial.regions l.regions l.pid l.fn.held l.index;
  reserved : l.regions.reserved ≡ l.initial.regions.reserved;
  limits : KeepsLimits l.initial.store l.initial.regions l.store l.regions 0;
  places : KeepsPlaces l.initial.store l.store;
  goes_on : KeepsOrder l.initial.store l.initial.regions l.store l.regions;
  matches : MatchesBelow l.initial.store l.store l.initial.regions l.regions l.pid l.fn.held l.index;
}
