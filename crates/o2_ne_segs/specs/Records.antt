-- The relocation records of a segment: behind its bytes in the file a count word, then rows of eight bytes.
use Rattle.std.specs.Prelude.{ℕ, ◌+◌, ◌*◌, List, [], ◌∷◌, Result, Ok, if◌then◌else◌}
use Rattle.o2_base.specs.declared.faults.SegFault.{SegFault}
use Rattle.o2_base.specs.declared.faults.SegFault.TheVariants.{Truncated}
use Rattle.o2_ne.specs.Words.{byte_at, word_at}
use Rattle.o2_ne.specs.Checks.{Check, all_hold, bytes_in, ◌>>=◌}
use Rattle.o2_ne.specs.Steps.{tabulate}
use Rattle.o2_ne_segs.specs.declared.reloc.Reloc.{Reloc}
use Rattle.o2_ne_segs.specs.declared.segment.Segment.{Segment}

-- the record whose row stands at place p: source type, flags, place, two target words
abbrev pub reloc_at : List ℕ → ℕ → Reloc
reloc_at file p = record {
  source = byte_at file p;
  flags = byte_at file (p + 1);
  place = word_at file (p + 2);
  first = word_at file (p + 4);
  second = word_at file (p + 6);
}

-- the n records from place p on
abbrev pub relocs_at : List ℕ → ℕ → ℕ → List Reloc
relocs_at file p n = tabulate (λ k. reloc_at file (p + 8 * k)) 0 n

-- the first place behind a segment's bytes in the file
abbrev pub end_of : Segment → ℕ
end_of s = s.file_at + s.file_len

abbrev pub reloc_count : List ℕ → Segment → ℕ
reloc_count file s = if s.relocs then word_at file (end_of s) else 0

-- the records of a segment, where the file has them
abbrev pub relocs_in : List ℕ → Segment → List Reloc
relocs_in file s = relocs_at file (end_of s + 2) (reloc_count file s)

-- the file has the count word, then all rows
abbrev pub reloc_checks : List ℕ → Segment → List (Check SegFault)
reloc_checks file s =
    if s.relocs then (
    bytes_in Truncated file (end_of s) 2
    ∷ bytes_in Truncated file (end_of s + 2) (8 * word_at file (end_of s))
    ∷ []) else []

-- how many records a segment has, or the fault of the first check that fails
abbrev pub counted : List ℕ → Segment → Result ℕ SegFault
counted file s = do
  _ ← all_hold (reloc_checks file s)
  Ok (reloc_count file s)

-- the records of a segment, or the fault of the first check that fails
unfoldable pub relocs_of : List ℕ → Segment → Result (List Reloc) SegFault
relocs_of file s = do
  _ ← all_hold (reloc_checks file s)
  Ok (relocs_in file s)
