-- What a source in memory has left, and what it gave.
use Rattle.std.specs.Prelude.{ℕ, List, take, drop, length, nat_eq}
use Rattle.o2_outer.specs.declared.sure.SureSource.{SureSource}
use Rattle.o2_outer.specs.declared.mem_source.MemSource.{MemSource}
use Rattle.o2_outer.specs.Inputs.{Past}

abbrev pub source_left : SureSource → List ℕ
source_left s = drop s.at s.bytes

abbrev pub mem_left : MemSource → List ℕ
mem_left s = drop s.at s.bytes

abbrev pub mem_faults : MemSource → ℕ
mem_faults s = s.faults

-- the front of some bytes that was given; it has ended where nothing is left
abbrev pub past_at : ℕ → List ℕ → Past
past_at at bytes = record { given = take at bytes; ended = nat_eq at (length bytes) }

abbrev pub sure_past : SureSource → Past
sure_past s = past_at s.at s.bytes

abbrev pub mem_past : MemSource → Past
mem_past s = past_at s.at s.bytes
