use Rattle.std.proofs.Common.{◌≡◌, ◌+◌, ◌-◌, ◌++◌}
use Rattle.o2_ne.specs.Steps.{tabulate}
use Rattle.o2_dynlink.proofs.order.numbers.Given as goal

abbrev pub invariant-loop-k : goal.invariant-loop-k
invariant-loop-k l = l.found.items ++ tabulate (λ k. k + 1) l.k (l.count - l.k) ≡ tabulate (λ k. k + 1) 0 l.count
