use Rattle.std.proofs.Common.{◌≡◌}
use Rattle.o2_exec_flow.specs.Checks.{rooms_down}
use Rattle.o2_exec_flow.proofs.frames.check_rooms.Given as goal

abbrev pub invariant-loop-count : goal.invariant-loop-count
invariant-loop-count g l = rooms_down l.count l.at (g.B.Bus.view l.bus) ≡ rooms_down l.fn.count l.fn.at (g.B.Bus.view l.fn.bus)

abbrev pub decreases-loop-count : goal.decreases-loop-count
decreases-loop-count g l = l.count
