use Rattle.std.proofs.Common.{◌+◌, ◌-◌}
use Rattle.o2_regions.specs.Words.{mark_at, IsScanned}
use Rattle.o2_regions.proofs.bits.scan_clear.Given as goal

abbrev pub invariant-loop-i : goal.invariant-loop-i
invariant-loop-i l = IsScanned (λ k. mark_at l.words (l.base + k)) l.low l.end l.wanted l.i l.run

abbrev pub decreases-loop-i : goal.decreases-loop-i
decreases-loop-i l = l.end - l.i
