use Rattle.std.proofs.Common.{◌≡◌, length}
use Rattle.measure.proofs.memory.touch_all.Given as goal

abbrev pub invariant-loop-id : goal.invariant-loop-id
invariant-loop-id l = length l.clock.marks ≡ length l.initial.clock.marks
