-- The records of a segment: each must lead somewhere, and patch nothing twice.
use Rattle.std.specs.Prelude.{ℕ, ◌+◌, ◌==◌, ◌||◌, Bool, false, List, [], ◌∷◌, Result, Ok, if◌then◌else◌, replicate}
use Rattle.o2_base.specs.declared.faults.ModuleFault.{ModuleFault}
use Rattle.o2_base.specs.declared.faults.ModuleFault.TheVariants.{BadTarget}
use Rattle.o2_ne.specs.declared.head.Head.{Head}
use Rattle.o2_ne.specs.declared.entries.Entry.{Entry}
use Rattle.o2_ne.specs.Words.{string_at}
use Rattle.o2_ne.specs.Checks.{all_hold, or_fault, ◌>>=◌}
use Rattle.o2_ne.specs.Steps.{over}
use Rattle.o2_ne_segs.specs.declared.reloc.Reloc.{Reloc}
use Rattle.o2_ne_segs.specs.declared.segment.Segment.{Segment}
use Rattle.o2_ne_segs.specs.Records.{counted, relocs_in}
use Rattle.o2_image.specs.Faults.{under_seg}
use Rattle.o2_image.specs.Targets.{is_additive, is_fixup, leads, width_of}
use Rattle.o2_image.specs.Chains.{Marks, chain, single}

-- the bytes of a segment in the file
abbrev pub bytes_of : List ℕ → Segment → List ℕ
bytes_of file s = string_at file s.file_at s.file_len

-- a low byte and an additive record have one place
abbrev pub has_one_place : Reloc → Bool
has_one_place r = r.source == 0 || is_additive r

-- the marks after a record's places, of which a system fixup has none
abbrev pub marks_after : ℕ → List ℕ → Reloc → Marks → Result Marks ModuleFault
marks_after seg bytes r marks =
    if is_fixup r then Ok marks
    else (if has_one_place r then single seg bytes (width_of r.source) r.place marks
    else chain seg bytes (width_of r.source) r.place marks)

-- the marks so far, and the number of the next record
pub record Checking : Type 0 where
  pub marks : Marks
  pub number : ℕ

unfoldable pub record_step : List ℕ → Head → List Entry → ℕ → List ℕ → Reloc → Checking → Result Checking ModuleFault
record_step file h es seg bytes r c = do
  _ ← all_hold (or_fault (leads file h es r) (BadTarget seg c.number) ∷ [])
  marks ← marks_after seg bytes r c.marks
  Ok (record { marks = marks; number = c.number + 1 })

-- the records of segment n, and the number of the next segment
unfoldable pub segment_step : List ℕ → Head → List Entry → Segment → ℕ → Result ℕ ModuleFault
segment_step file h es s n = do
  _ ← under_seg (counted file s)
  _ ← over (record_step file h es n (bytes_of file s)) (relocs_in file s)
      (record { marks = replicate s.file_len false; number = 0 })
  Ok (n + 1)
