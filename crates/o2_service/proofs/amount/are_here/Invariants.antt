use Rattle.o2_service.proofs.Fitting.{FitAt}
use Rattle.o2_service.proofs.amount.are_here.Given as goal

abbrev pub invariant-loop-k : goal.invariant-loop-k
invariant-loop-k l = FitAt l.store l.need l.k
