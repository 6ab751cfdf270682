use Rattle.std.proofs.Common.{◌≡◌, ◌+◌, ◌≤◌}
use Rattle.std.specs.Prelude.{replicate}
use Rattle.o2_outer.specs.Texts.{Gains}
use Rattle.o2_world.specs.Text.{lines_text}
use Rattle.o2_gate.specs.MovedLines.{line_at}
use Rattle.o2_gate.proofs.line.put_index.Given as goal

abbrev pub invariant-loop-time : goal.invariant-loop-time
invariant-loop-time g l = record {
  so_far : Gains (g.R.Sink.taken l.initial.report) (g.R.Sink.taken l.report) (lines_text (replicate l._time (line_at l.cause l.block l.index)));
  puts : g.R.Sink.puts l.report ≡ g.R.Sink.puts l.initial.report + l._time;
  count : g.R.Sink.faults l.initial.report ≤ g.R.Sink.faults l.report;
}
