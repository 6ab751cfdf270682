use Rattle.std.proofs.Common.{◌≡◌, drop}
use Rattle.o2_isa.specs.Spelling.{no_prefixes}
use Rattle.o2_isa.specs.Reading.{read}
use Rattle.o2_decode.proofs.reading.read_bytes.Given as goal

abbrev pub invariant-loop-i : goal.invariant-loop-i
invariant-loop-i l = read l.prefixes l.i (drop l.i l.bytes) ≡ read no_prefixes 0 l.bytes
