use Rattle.std.proofs.Common.{◌≡◌}
use Rattle.test_memory.proofs.place.ranges_come_and_go.Given as goal

abbrev pub invariant-loop-id : goal.invariant-loop-id
invariant-loop-id l = l.places.most ≡ 8
