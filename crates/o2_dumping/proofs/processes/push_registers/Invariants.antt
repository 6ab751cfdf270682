use Rattle.std.proofs.Common.{◌≡◌, ◌+◌, ◌*◌, ◌++◌, length, take}
use Rattle.std.specs.Prelude.{flat_map}
use Rattle.o2_dump.specs.CoreBytes.{word}
use Rattle.o2_dumping.proofs.processes.push_registers.Given as goal

abbrev pub invariant-loop-register : goal.invariant-loop-register
invariant-loop-register l = record {
  text : l.piece ≡ l.fn.piece ++ flat_map word (take l.register-index l.register-items);
  len : length l.piece ≡ length l.fn.piece + 2 * l.register-index;
}
