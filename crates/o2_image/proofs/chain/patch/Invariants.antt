use Rattle.std.proofs.Common.{◌≡◌, ◌+◌, ◌-◌}
use Rattle.o2_image.specs.Chains.{patched}
use Rattle.o2_image.proofs.chain.patch.Given as goal

abbrev pub invariant-loop-k : goal.invariant-loop-k
invariant-loop-k l = patched l.marks (l.at + l.k) (l.width - l.k) ≡ patched l.fn.marks l.at l.width
