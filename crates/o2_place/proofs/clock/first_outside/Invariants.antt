use Rattle.std.proofs.Common.{ℕ, ◌<◌, ◌≤◌, slice_index}
use Rattle.o2_place.specs.Marks.{IsKept}
use Rattle.o2_place.proofs.clock.first_outside.Given as goal

abbrev pub invariant-loop-i : goal.invariant-loop-i
invariant-loop-i l = (j : ℕ) → l.from ≤ j → j < l.i → IsKept l.keep (slice_index l.ring j)
