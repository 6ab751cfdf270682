use Rattle.std.proofs.Common.{◌≡◌, ◌+◌, ◌-◌, slice_index}
use Rattle.o2_swapmap.specs.Piles.{pile, IsPile}
use Rattle.o2_swapmap.proofs.piles.walk.Given as goal

abbrev pub invariant-loop : goal.invariant-loop
invariant-loop l = record {
  chain : IsPile l.blocks l.owner l.at (l.count - (l.counter - (l.k + 1)));
  same : slice_index (pile l.blocks l.at (l.count - (l.counter - (l.k + 1)))) l.k ≡ slice_index (pile l.blocks l.top l.count) l.k;
}
