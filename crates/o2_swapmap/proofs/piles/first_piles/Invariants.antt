use Rattle.std.proofs.Common.{◌≡◌, ◌≤◌, ◌+◌, vec_len, replicate}
use Rattle.std.specs.Vec.{vec_capacity}
use Rattle.o2_swapmap.specs.Piles.{no_pile}
use Rattle.o2_swapmap.proofs.piles.first_piles.Given as goal

abbrev pub invariant-loop : goal.invariant-loop
invariant-loop l = record {
  room : l.most + 1 ≤ vec_capacity l.piles;
  len : vec_len l.piles ≡ l.counter;
  each : l.piles.items ≡ replicate l.counter no_pile;
}
