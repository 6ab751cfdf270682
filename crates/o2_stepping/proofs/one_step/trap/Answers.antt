use Rattle.std.proofs.Common.{[]}
use Rattle.o2_world.specs.World.{Traps}
use Rattle.o2_run.proofs.FailedLines.{fails_first}
use Rattle.o2_gate.proofs.Fails.{by_lines}
use Rattle.o2_stepping.proofs.one_step.trap.Goals as goal

pub returns-in-Failed-clause-part : goal.returns-in-Failed-clause-part
returns-in-Failed-clause-part g c = λ e k none lines.
    by_lines e k _ _ _ _ _ none lines
    (fails_first (Traps c.args.pid c.args.vector c.args.cpu.now.cs c.args.cpu.now.ip) [] _ _ _ _ c.in-Failed.ensures.report c.in-Failed.ensures.puts)
