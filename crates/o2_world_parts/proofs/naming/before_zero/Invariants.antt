use Rattle.std.proofs.Common.{◌≡◌, take}
use Rattle.o2_world.specs.SharedNames.{before_zero}
use Rattle.o2_world_parts.proofs.Names.{text_from}
use Rattle.o2_world_parts.proofs.naming.before_zero.Given as goal

abbrev pub invariant-loop-byte : goal.invariant-loop-byte
invariant-loop-byte l = record {
  so_far : l.text.items ≡ take l.byte-index l.bytes;
  whole : before_zero l.bytes ≡ text_from l.bytes l.byte-index;
}
