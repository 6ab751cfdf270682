use Rattle.std.proofs.Common.{◌+◌, ◌-◌, not}
use Rattle.o2_regions.specs.Words.{mark_at, IsScanned}
use Rattle.o2_regions.proofs.bits.scan_marked.Given as goal

abbrev pub invariant-loop-i : goal.invariant-loop-i
invariant-loop-i l = IsScanned (λ k. not (mark_at l.words (l.base + k))) l.low l.end 1 l.i 0

abbrev pub decreases-loop-i : goal.decreases-loop-i
decreases-loop-i l = l.end - l.i
