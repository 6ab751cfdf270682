use Rattle.std.proofs.Common.{◌≡◌}
use Rattle.measure.proofs.memory.fit_many.Given as goal

abbrev pub invariant-loop-id : goal.invariant-loop-id
invariant-loop-id l = l.places.most ≡ l.count
