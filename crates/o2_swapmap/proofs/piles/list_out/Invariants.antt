use Rattle.std.proofs.Common.{◌≡◌, ◌<◌, ◌≤◌, ℕ, slice_index}
use Rattle.o2_swapmap.specs.Piles.{pile, IsPile}
use Rattle.o2_swapmap.proofs.piles.list_out.Given as goal

abbrev pub invariant-loop-k : goal.invariant-loop-k
invariant-loop-k l = record {
  within : l.k ≤ l.count;
  chain : IsPile l.blocks l.owner l.at l.k;
  same : (j : ℕ) → j < l.k → slice_index (pile l.blocks l.at l.k) j ≡ slice_index (pile l.blocks l.top l.count) j;
  listed : (j : ℕ) → l.k ≤ j → j < l.count → slice_index l.into j ≡ slice_index (pile l.blocks l.top l.count) j;
}
