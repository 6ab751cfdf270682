use Rattle.std.proofs.Common.{◌≡◌, length}
use Rattle.test_memory.proofs.place.victim_of.Given as goal

abbrev pub invariant-loop-id : goal.invariant-loop-id
invariant-loop-id l = length l.clock.marks ≡ 6
