use Rattle.std.proofs.Common.{◌≡◌, ◌≤◌, length, take, min}
use Rattle.o2_swapmap.specs.Piles.{blocks_of, OnlyOf}
use Rattle.o2_swapmap.proofs.swap_map.SwapMap.give.Given as goal

abbrev pub invariant-loop-self : goal.invariant-loop-self
invariant-loop-self l = record {
  only : OnlyOf l.id l.initial.self l.self;
  front : blocks_of l.self l.id ≡ take (length (blocks_of l.self l.id)) (blocks_of l.initial.self l.id);
  long : min l.keep (length (blocks_of l.initial.self l.id)) ≤ length (blocks_of l.self l.id);
}

abbrev pub decreases-loop-self : goal.decreases-loop-self
decreases-loop-self l = length (blocks_of l.self l.id)
