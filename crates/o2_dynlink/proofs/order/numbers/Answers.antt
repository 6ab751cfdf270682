use Rattle.std.proofs.Common.{◌+◌}
use Rattle.o2_ne.proofs.Tabulated.{goes_on, is_done, table_length}
use Rattle.o2_dynlink.proofs.order.numbers.Goals as goal

pub loop-k-preserved : goal.loop-k-preserved
loop-k-preserved c = rw c.in_ok-push.ensures.items (goes_on (λ k. k + 1) _ _ _ _ c.loop-k-test.true c.loop-k.invariant)

pub returns-clause-exact : goal.returns-clause-exact
returns-clause-exact c = is_done (λ k. k + 1) _ _ _ _ c.loop-k-test.false c.loop-k.invariant

pub returns-clause-count : goal.returns-clause-count
returns-clause-count c = table_length (λ k. k + 1) _ _ (is_done (λ k. k + 1) _ _ _ _ c.loop-k-test.false c.loop-k.invariant)
