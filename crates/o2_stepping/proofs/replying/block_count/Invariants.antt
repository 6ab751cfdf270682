use Rattle.std.proofs.Common.{◌≡◌, ◌*◌, ◌^◌, ◌≤◌, take}
use Rattle.o2_gate.specs.MovedLines.{line_number}
use Rattle.o2_stepping.proofs.replying.block_count.Given as goal

abbrev pub invariant-loop-block : goal.invariant-loop-block
invariant-loop-block l = record { lines : l.lines ≡ line_number (take l.block-index l.blocks); most : l.lines ≤ l.block-index * 2 ^ 48 }
