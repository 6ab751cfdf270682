use Rattle.std.proofs.Common.{length, ◌-◌}
use Rattle.o2_regions.proofs.Telling.{IsToldTo}
use Rattle.o2_regions.proofs.describing.describe.Given as goal

abbrev pub invariant-loop-at : goal.invariant-loop-at
invariant-loop-at l = IsToldTo l.held l.initial.tables l.tables l.id l.base l.limit l.at

abbrev pub decreases-loop-at : goal.decreases-loop-at
decreases-loop-at l = length l.held - l.at
