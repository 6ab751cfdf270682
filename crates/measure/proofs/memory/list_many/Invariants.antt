use Rattle.std.proofs.Common.{◌≡◌, length}
use Rattle.measure.proofs.memory.list_many.Given as goal

abbrev pub invariant-loop-round : goal.invariant-loop-round
invariant-loop-round l = length l.into.items ≡ l.count
