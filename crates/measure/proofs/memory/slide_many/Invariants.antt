use Rattle.std.proofs.Common.{◌≡◌, ◌+◌, ◌*◌, length}
use Rattle.measure.proofs.memory.slide_many.Given as goal

abbrev pub invariant-loop-round : goal.invariant-loop-round
invariant-loop-round l = length l.phys ≡ 1024 * l.count + 16
