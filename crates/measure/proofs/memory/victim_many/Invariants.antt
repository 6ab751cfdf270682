use Rattle.std.proofs.Common.{◌≡◌, length}
use Rattle.measure.proofs.memory.victim_many.Given as goal

abbrev pub invariant-loop-round : goal.invariant-loop-round
invariant-loop-round l = length l.clock.marks ≡ l.count
