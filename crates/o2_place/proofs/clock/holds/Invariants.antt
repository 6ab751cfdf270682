use Rattle.std.proofs.Common.{ℕ, ◌<◌, ◌≢◌, slice_index}
use Rattle.o2_place.proofs.clock.holds.Given as goal

abbrev pub invariant-loop-k : goal.invariant-loop-k
invariant-loop-k l = (j : ℕ) → j < l.k-index → slice_index l.keep j ≢ l.id
