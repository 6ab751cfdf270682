use Rattle.std.proofs.Common.{◌≡◌, replicate, ◌≤◌}
use Rattle.o2_outer.proofs.blocks.zero_blocks.Given as goal

abbrev pub invariant-loop : goal.invariant-loop
invariant-loop l = record {
  within : l.counter ≤ l.blocks;
  zeros : l.all.items ≡ replicate l.counter (replicate 512 0);
}
