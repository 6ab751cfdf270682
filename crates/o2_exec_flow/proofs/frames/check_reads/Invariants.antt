use Rattle.std.proofs.Common.{◌≡◌}
use Rattle.o2_exec_flow.specs.Checks.{reads_down}
use Rattle.o2_exec_flow.proofs.frames.check_reads.Given as goal

abbrev pub invariant-loop-count : goal.invariant-loop-count
invariant-loop-count g l = reads_down l.count l.at (g.B.Bus.view l.bus) ≡ reads_down l.fn.count l.fn.at (g.B.Bus.view l.fn.bus)

abbrev pub decreases-loop-count : goal.decreases-loop-count
decreases-loop-count g l = l.count
