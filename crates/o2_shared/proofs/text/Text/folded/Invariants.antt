use Rattle.std.proofs.Common.{◌≡◌, length, take}
use Rattle.o2_world.specs.SharedNames.{folded}
use Rattle.o2_shared.proofs.text.Text.folded.Given as goal

abbrev pub invariant-loop-k : goal.invariant-loop-k
invariant-loop-k l = record {
  long : length l.bytes ≡ 128;
  so_far : take l.k l.bytes ≡ folded (take l.k l.text);
}
