use Rattle.std.proofs.Common.{◌≡◌, ◌+◌, ◌≤◌, length, take}
use Rattle.std.specs.Prelude.{flat_map}
use Rattle.o2_outer.specs.Texts.{Gains}
use Rattle.o2_world.specs.Rulings.{indexes}
use Rattle.o2_world.specs.Text.{lines_text}
use Rattle.o2_gate.specs.MovedLines.{lines_at}
use Rattle.o2_gate.proofs.line.put_block.Given as goal

abbrev pub invariant-loop-place : goal.invariant-loop-place
invariant-loop-place g l = record {
  so_far : Gains (g.R.Sink.taken l.initial.report) (g.R.Sink.taken l.report) (lines_text (flat_map (lines_at l.cause l.block) (take l.place (indexes l.block.index l.block.count))));
  puts : g.R.Sink.puts l.report ≡ g.R.Sink.puts l.initial.report + length (flat_map (lines_at l.cause l.block) (take l.place (indexes l.block.index l.block.count)));
  count : g.R.Sink.faults l.initial.report ≤ g.R.Sink.faults l.report;
}
