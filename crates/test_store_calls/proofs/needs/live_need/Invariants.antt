use Rattle.o2_service.proofs.Among.{LiveTo}
use Rattle.test_store_calls.proofs.Fresh.{WholeTo}
use Rattle.test_store_calls.proofs.needs.live_need.Given as goal

abbrev pub invariant-loop-k : goal.invariant-loop-k
invariant-loop-k l = LiveTo l.store l.pairs l.k × WholeTo l.store l.pairs l.k
