use Rattle.std.proofs.Common.{◌≤◌, length}
use Rattle.o2_image.specs.Marked.{IsPacked}
use Rattle.o2_image.proofs.packed.pack.Given as goal

abbrev pub invariant-loop-k : goal.invariant-loop-k
invariant-loop-k l = record {
  packed : IsPacked l.targets l.k l.packed;
  within : l.k ≤ length l.targets;
}
