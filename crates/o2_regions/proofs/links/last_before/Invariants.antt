use Rattle.std.proofs.Common.{length}
use Rattle.o2_regions.specs.Links.{list_of}
use Rattle.o2_regions.proofs.Walks.{IsDown, depth}
use Rattle.o2_regions.proofs.links.last_before.Given as goal

abbrev pub invariant-loop-at : goal.invariant-loop-at
invariant-loop-at l = IsDown l.held (list_of l.key) l.place l.at

abbrev pub decreases-loop-at : goal.decreases-loop-at
decreases-loop-at l = depth (length l.held) l.at
