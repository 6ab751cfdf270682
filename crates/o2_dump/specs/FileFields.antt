-- The fields of a core image: numbers with the lowest byte first, registers and descriptors.
use Rattle.std.specs.Prelude.{ℕ, ◌+◌, ◌*◌, Bool, List, nat_le, length}
use Rattle.o2_desc.specs.declared.descriptor.Descriptor.{Descriptor}
use Rattle.o2_isa.specs.declared.cpu.Cpu.{Cpu}
use Rattle.o2_ne.specs.Words.{byte_at, word_at, long_at}
use Rattle.o2_ne.specs.Checks.{Check, or_fault}
use Rattle.o2_dump.specs.declared.fault.CoreFault.{CoreFault}
use Rattle.o2_dump.specs.declared.fault.CoreFault.TheVariants.{Truncated, BadEntry}

-- the number of eight bytes at place p
abbrev pub quad_at : List ℕ → ℕ → ℕ
quad_at file p = long_at file p + 4294967296 * long_at file (p + 4)

-- limit in two bytes, base in three, access byte; two more bytes are zeros
abbrev pub descriptor_at : List ℕ → ℕ → Descriptor
descriptor_at file p = record {
  base = word_at file (p + 2) + 65536 * byte_at file (p + 4);
  limit = word_at file p;
  access = byte_at file (p + 5);
}

-- fourteen words
abbrev pub registers_at : List ℕ → ℕ → Cpu
registers_at file p = record {
  ax = word_at file p;
  cx = word_at file (p + 2);
  dx = word_at file (p + 4);
  bx = word_at file (p + 6);
  sp = word_at file (p + 8);
  bp = word_at file (p + 10);
  si = word_at file (p + 12);
  di = word_at file (p + 14);
  ip = word_at file (p + 16);
  flags = word_at file (p + 18);
  cs = word_at file (p + 20);
  ds = word_at file (p + 22);
  es = word_at file (p + 24);
  ss = word_at file (p + 26);
}

-- the file has the n bytes from place p, or ends within them
abbrev pub whole : List ℕ → ℕ → ℕ → Check CoreFault
whole file p n = or_fault (nat_le (p + n) (length file)) (Truncated (length file))

-- what is told from place p on is right in this
abbrev pub right : ℕ → Bool → Check CoreFault
right p b = or_fault b (BadEntry p)
