use Rattle.std.proofs.Common.{◌≡◌, ◌≤◌, ◌<◌, ℕ, length, slice_index}
use Rattle.std.specs.Vec.{vec_capacity}
use Rattle.o2_place.proofs.clock.numbers_below.Given as goal

abbrev pub invariant-loop-k : goal.invariant-loop-k
invariant-loop-k l = record {
  room : l.most ≤ vec_capacity l.numbers;
  long : length l.numbers.items ≡ l.k;
  each : (j : ℕ) → j < l.k → slice_index l.numbers.items j ≡ j;
}
