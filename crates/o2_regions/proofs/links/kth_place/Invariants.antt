use Rattle.std.proofs.Common.{length, ◌-◌}
use Rattle.o2_regions.proofs.Walks.{IsUp}
use Rattle.o2_regions.proofs.links.kth_place.Given as goal

abbrev pub invariant-loop-at : goal.invariant-loop-at
invariant-loop-at l = IsUp l.held l.id l.k l.left l.at

abbrev pub decreases-loop-at : goal.decreases-loop-at
decreases-loop-at l = length l.held - l.at
