use Rattle.std.proofs.Common.{◌≡◌, ◌+◌, length, take}
use Rattle.o2_swapmap.specs.Piles.{blocks_of, OnlyOf}
use Rattle.o2_swapmap.proofs.swap_map.SwapMap.take.Given as goal

abbrev pub invariant-loop : goal.invariant-loop
invariant-loop l = record {
  only : OnlyOf l.id l.initial.self l.self;
  more : length (blocks_of l.self l.id) ≡ length (blocks_of l.initial.self l.id) + l.counter;
  front : take (length (blocks_of l.initial.self l.id)) (blocks_of l.self l.id) ≡ blocks_of l.initial.self l.id;
}
