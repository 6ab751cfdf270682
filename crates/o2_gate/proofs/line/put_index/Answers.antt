use Rattle.std.proofs.Common.{arith}
use Rattle.o2_outer.proofs.TextLemmas.{puts_second}
use Rattle.o2_gate.specs.MovedLines.{line_at}
use Rattle.o2_gate.proofs.MovedLines.{times_fails, times_split}
use Rattle.o2_gate.proofs.line.put_index.Goals as goal

pub returns-in-Failed-clause-report : goal.returns-in-Failed-clause-report
returns-in-Failed-clause-report g c =
    rw (times_split c.args.block.now.holds c.loop-time._time (line_at c.args.cause.now c.args.block.now c.args.index) (omega arith))
    (puts_second _ _ _ _ _ _ c.loop-time.invariant.so_far c.in-Failed.ensures.report)

pub returns-in-Failed-clause-line : goal.returns-in-Failed-clause-line
returns-in-Failed-clause-line g c =
    times_fails c.args.block.now.holds c.loop-time._time (line_at c.args.cause.now c.args.block.now c.args.index) (omega arith) _ _ _ _ _ _
    c.loop-time.invariant.so_far c.loop-time.invariant.puts c.in-Failed.ensures.report c.in-Failed.ensures.puts
