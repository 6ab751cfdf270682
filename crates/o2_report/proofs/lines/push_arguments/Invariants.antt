use Rattle.std.proofs.Common.{◌≡◌, ◌≤◌, ◌+◌, ◌*◌, ◌++◌, length, take}
use Rattle.std.specs.Prelude.{flat_map}
use Rattle.o2_world.specs.Text.{argument_text}
use Rattle.o2_report.proofs.lines.push_arguments.Given as goal

abbrev pub invariant-loop-argument : goal.invariant-loop-argument
invariant-loop-argument l = record {
  text : l.line ≡ l.fn.line ++ flat_map argument_text (take l.argument-index l.arguments);
  most : length l.line ≤ length l.fn.line + 10 * l.argument-index;
}
