use Rattle.std.proofs.Common.{◌≡◌, ◌≤◌, ◌<◌, ◌+◌, ◌-◌, ℕ, vec_len}
use Rattle.std.specs.Vec.{vec_capacity}
use Rattle.o2_swapmap.specs.Piles.{block}
use Rattle.o2_swapmap.proofs.piles.free_blocks.Given as goal

abbrev pub invariant-loop-i : goal.invariant-loop-i
invariant-loop-i l = record {
  room : l.blocks ≤ vec_capacity l.all;
  len : vec_len l.all ≡ l.i;
  each : (j : ℕ) → j < l.i → block l.all.items j ≡ record { below = j + 1; owner = l.most; rank = l.blocks - 1 - j };
}
