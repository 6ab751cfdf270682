use Rattle.std.proofs.Common.{◌≡◌, ◌++◌, drop}
use Rattle.o2_dump.specs.CoreImage.{joined}
use Rattle.o2_dump.proofs.content.joined.Given as goal

abbrev pub invariant-loop-block : goal.invariant-loop-block
invariant-loop-block l = record {
  so_far : l.bytes.items ++ joined (drop l.block-index l.blocks) ≡ joined l.blocks;
}
