use Rattle.std.proofs.Common.{◌≡◌, ◌+◌, ◌≤◌, length, take}
use Rattle.std.specs.Prelude.{flat_map}
use Rattle.o2_outer.specs.Texts.{Gains}
use Rattle.o2_world.specs.Text.{lines_text}
use Rattle.o2_gate.specs.MovedLines.{block_lines}
use Rattle.o2_gate.proofs.line.put_blocks.Given as goal

abbrev pub invariant-loop-block : goal.invariant-loop-block
invariant-loop-block g l = record {
  so_far : Gains (g.R.Sink.taken l.initial.report) (g.R.Sink.taken l.report) (lines_text (flat_map (block_lines l.cause) (take l.block-index l.blocks)));
  puts : g.R.Sink.puts l.report ≡ g.R.Sink.puts l.initial.report + length (flat_map (block_lines l.cause) (take l.block-index l.blocks));
  count : g.R.Sink.faults l.initial.report ≤ g.R.Sink.faults l.report;
}
