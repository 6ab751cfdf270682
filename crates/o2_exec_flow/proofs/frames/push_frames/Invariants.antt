use Rattle.std.proofs.Common.{◌≡◌, ◌+◌, Ok}
use Rattle.o2_isa.specs.Steps.{changed}
use Rattle.o2_isa.specs.FlowFrames.{frames}
use Rattle.o2_exec_flow.specs.Checks.{rooms_down}
use Rattle.o2_exec_flow.proofs.frames.push_frames.Given as goal

abbrev pub invariant-loop-count : goal.invariant-loop-count
invariant-loop-count g l =
    (rooms_down (l.count + 1) l.to (g.B.Bus.view l.bus) ≡ Ok 0)
    × (changed (frames l.count l.from l.to l.frame) (g.B.Bus.view l.bus) ≡ changed (frames l.fn.count l.fn.from l.fn.to l.frame) (g.B.Bus.view l.initial.bus))

abbrev pub decreases-loop-count : goal.decreases-loop-count
decreases-loop-count g l = l.count
