use Rattle.std.proofs.Common.{◌≡◌, ◌≤◌, ◌<◌, ℕ, length, slice_index}
use Rattle.std.specs.Vec.{vec_capacity}
use Rattle.o2_regions.proofs.links.unlinked.Given as goal

abbrev pub invariant-loop-x : goal.invariant-loop-x
invariant-loop-x l = record {
  room : l.end ≤ vec_capacity l.links;
  long : length l.links.items ≡ l.x;
  each : (j : ℕ) → j < l.x → slice_index l.links.items j ≡ j;
}
