-- A core image: what a machine consisted of as it was written.
use Rattle.std.specs.Prelude.{ℕ, ◌+◌, ◌-◌, ◌==◌, ◌||◌, if◌then◌else◌, Bool, List, [], ◌∷◌, ◌++◌, drop, flat_map, length, min, option_map, Option, replicate, slice_get, take, Result, Ok, codes, bytes_eq}
use Rattle.o2_ne.specs.Words.{byte_at, long_at, string_at}
use Rattle.o2_ne.specs.Checks.{Check, all_hold, or_fault, ◌>>=◌}
use Rattle.o2_ne.specs.Steps.{steps}
use Rattle.o2_dump.specs.declared.reader.Core.{Core}
use Rattle.o2_dump.specs.declared.fault.CoreFault.{CoreFault}
use Rattle.o2_dump.specs.declared.fault.CoreFault.TheVariants.{NotCore, TooLong}
use Rattle.o2_dump.specs.declared.parts.Block.{Block}
use Rattle.o2_dump.specs.declared.parts.Place.{Place}
use Rattle.o2_dump.specs.declared.parts.Place.TheVariants.{Zeros, Image, Memory, Swap}
use Rattle.o2_dump.specs.declared.parts.SegmentEntry.{SegmentEntry}
use Rattle.o2_dump.specs.FileFields.{quad_at, whole, right}
use Rattle.o2_dump.specs.SegmentEntries.{SegmentsSoFar, segment_step}
use Rattle.o2_dump.specs.ProcessEntries.{ProcessesSoFar, process_step}

-- the first eight bytes of the file, as far as it has them, are the mark's
abbrev pub begins_as : List ℕ → List ℕ → Bool
begins_as mark file = bytes_eq (take (min (length file) 8) file) (take (min (length file) 8) mark)

-- the mark of the first form, or of the second one, whose entries tell of discarded segments
abbrev pub is_marked : List ℕ → Bool
is_marked file = begins_as (codes "OS2CORE1") file || begins_as (codes "OS2CORE2") file

-- how long the fields of a segment's entry are, by the last byte of the mark
abbrev pub fields_of : List ℕ → ℕ
fields_of file = if byte_at file 7 == 50 then 13 else 12

-- the head: the mark; sizes of the memory and of the swap device in blocks; the numbers of segments and of processes; steps
-- and console bytes
abbrev pub head_checks : List ℕ → List (Check CoreFault)
head_checks file = or_fault (is_marked file) NotCore ∷ whole file 0 40 ∷ []

abbrev pub segments_of : List ℕ → Result SegmentsSoFar CoreFault
segments_of file =
    steps (segment_step file (fields_of file) (long_at file 8) (long_at file 12)) (long_at file 16) (record { found = []; place = 40 })

-- the processes whose entries begin at place p
abbrev pub processes_of : List ℕ → ℕ → Result ProcessesSoFar CoreFault
processes_of file p =
    steps (process_step file (long_at file 16)) (long_at file 20) (record { found = []; least = 0; place = p })

abbrev pub has_end : List ℕ → ℕ → Bool
has_end file p = bytes_eq (string_at file p 4) (codes "END!")

-- the end mark at place p, with nothing behind it
abbrev pub end_checks : List ℕ → ℕ → List (Check CoreFault)
end_checks file p =
    whole file p 4
    ∷ right p (has_end file p)
    ∷ or_fault (length file == p + 4) (TooLong (p + 4))
    ∷ []

-- the core image of a file, or the fault of the first check that fails
unfoldable pub core_of : List ℕ → Result Core CoreFault
core_of file = do
  _ ← all_hold (head_checks file)
  s ← segments_of file
  _ ← all_hold (whole file s.place (long_at file 8) ∷ [])
  p ← processes_of file (s.place + long_at file 8)
  _ ← all_hold (end_checks file p.place)
  Ok (record {
    memory = string_at file s.place (long_at file 8);
    blocks = long_at file 12;
    steps = quad_at file 24;
    console = quad_at file 32;
    segments = s.found;
    processes = p.found;
  })

-- the bytes of some blocks, one after the other
abbrev pub joined : List Block → List ℕ
joined bs = flat_map (λ (b : Block). b.bytes) bs

-- the kept bytes of a segment, which are zeros where they stay with an image
abbrev pub kept_bytes : List ℕ → ℕ → Place → List ℕ
kept_bytes memory kept Zeros = []
kept_bytes memory kept (Image m k) = replicate kept 0
kept_bytes memory kept (Memory base) = take kept (drop base memory)
kept_bytes memory kept (Swap bs) = take kept (joined bs)

-- the bytes of a segment: those that are kept, and zeros
abbrev pub bytes_of : List ℕ → SegmentEntry → List ℕ
bytes_of memory e = kept_bytes memory e.kept e.place ++ replicate (e.size - length (kept_bytes memory e.kept e.place)) 0

-- the bytes of a segment by its number
abbrev pub segment_bytes : Core → ℕ → Option (List ℕ)
segment_bytes c k = option_map (bytes_of c.memory) (slice_get c.segments k)
