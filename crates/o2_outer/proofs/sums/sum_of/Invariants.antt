use Rattle.std.proofs.Common.{◌≡◌}
use Rattle.o2_outer.specs.Sums.{groups_sum}
use Rattle.o2_outer.proofs.sums.sum_of.Given as goal

abbrev pub invariant-loop-k : goal.invariant-loop-k
invariant-loop-k l = record { sum : l.sum ≡ groups_sum l.block l.k }
