use Rattle.std.proofs.Common.{◌≡◌, ◌+◌, ◌-◌}
use Rattle.o2_image.specs.Chains.{any_patched}
use Rattle.o2_image.proofs.chain.any_patched.Given as goal

abbrev pub invariant-loop-k : goal.invariant-loop-k
invariant-loop-k l = any_patched l.marks (l.at + l.k) (l.width - l.k) ≡ any_patched l.marks l.at l.width
