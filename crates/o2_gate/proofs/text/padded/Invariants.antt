use Rattle.std.proofs.Common.{◌≡◌, ◌-◌, ◌++◌, replicate, take}
use Rattle.o2_gate.proofs.text.padded.Given as goal

abbrev pub invariant-loop-k : goal.invariant-loop-k
invariant-loop-k l = record {
  so_far : l.bytes ≡ take l.k l.text ++ replicate (129 - l.k) 0;
}
