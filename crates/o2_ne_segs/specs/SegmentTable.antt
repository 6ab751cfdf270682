-- The segment table of a segmented executable: rows of four words, which are position, length, flags and minimum
-- allocation.
use Rattle.std.specs.Prelude.{◌≡◌, ℕ, ◌<◌, ◌≤◌, get_or, ◌+◌, ◌-◌, ◌*◌, ◌^◌, Option, None, slice_get, ◌==◌, ◌&&◌, Bool, not, List, [], ◌∷◌, ◌++◌, length, max, Result, Ok, Err, if◌then◌else◌}
use Rattle.std.specs.Int.RustNames.{bit_and}
use Rattle.o2_base.specs.declared.faults.SegFault.{SegFault}
use Rattle.o2_base.specs.declared.faults.SegFault.TheVariants as fault
use Rattle.o2_base.specs.declared.faults.Part.TheVariants.{Iterated, Conforming, Ring, Wide}
use Rattle.o2_ne.specs.Words.{word_at}
use Rattle.o2_ne.specs.Checks.{Check, all_hold, bytes_in, or_fault, ◌>>=◌}
use Rattle.o2_ne.specs.Steps.{steps}
use Rattle.o2_ne_segs.specs.declared.segment.Segment.{Segment}
use Rattle.o2_ne_segs.specs.declared.segment.Kind.{Kind}
use Rattle.o2_ne_segs.specs.declared.segment.Kind.TheVariants as kind

-- 0 stands for 65,536
abbrev pub or_64k : ℕ → ℕ
or_64k n = if n == 0 then 65536 else n

-- a position is in units of this many bytes
abbrev pub unit_of : ℕ → ℕ
unit_of shift = if shift == 0 then 512 else 2 ^ shift

abbrev pub has_bits : ℕ → ℕ → Bool
has_bits flags bits = not (bit_and flags bits == 0)

abbrev pub kind_of : ℕ → Kind
kind_of flags =
    if has_bits flags 1 then (if has_bits flags 0x80 then kind.ReadOnly else kind.Writable)
    else (if has_bits flags 0x80 then kind.CodeOnly else kind.Code)

-- position 0 stands for no bytes
abbrev pub file_len_of : ℕ → ℕ → ℕ
file_len_of position len = if position == 0 then 0 else or_64k len

abbrev pub row : ℕ → ℕ → ℕ → ℕ → ℕ → Segment
row unit position len flags minimum = record {
  file_at = position * unit;
  file_len = file_len_of position len;
  size = max (file_len_of position len) (or_64k minimum);
  kind = kind_of flags;
  relocs = not (position == 0) && has_bits flags 0x100;
  flags = flags;
}

-- the segment whose row stands at place p
abbrev pub segment_at : List ℕ → ℕ → ℕ → Segment
segment_at file shift p =
    row (unit_of shift) (word_at file p) (word_at file (p + 2)) (word_at file (p + 4)) (word_at file (p + 6))

abbrev pub profile_checks : ℕ → List (Check SegFault)
profile_checks flags =
    or_fault (not (has_bits flags 8)) (fault.OutOfProfile Iterated)
    ∷ or_fault (not (has_bits flags 0x200)) (fault.OutOfProfile Conforming)
    ∷ or_fault (not (bit_and flags 0xC00 == 0x400)) (fault.OutOfProfile Ring)
    ∷ or_fault (not (bit_and flags 0xC00 == 0x800)) (fault.OutOfProfile Ring)
    ∷ or_fault (not (has_bits flags 0x2000)) (fault.OutOfProfile Wide)
    ∷ []

-- the segment whose row stands at place p, or the fault of the first check that fails
unfoldable pub segment_of : List ℕ → ℕ → ℕ → Result Segment SegFault
segment_of file shift p = do
  _ ← all_hold (bytes_in fault.Truncated file p 8 ∷ [])
  _ ← all_hold (profile_checks (segment_at file shift p).flags)
  _ ← all_hold (bytes_in fault.Truncated file (segment_at file shift p).file_at (segment_at file shift p).file_len ∷ [])
  Ok (segment_at file shift p)

-- the next row
abbrev pub row_step : List ℕ → ℕ → ℕ → List Segment → Result (List Segment) SegFault
row_step file at shift found = do
  s ← segment_of file shift (at + 8 * length found)
  Ok (found ++ s ∷ [])

-- the segments of the `count` rows from place `at` on
unfoldable pub segments_of : List ℕ → ℕ → ℕ → ℕ → Result (List Segment) SegFault
segments_of file at count shift = steps (row_step file at shift) count []

-- Memory ran out, or the fault is that of the reading.
abbrev pub SegFails : {Y : Type 0} → SegFault → Result Y SegFault → Type 0
SegFails fault.NoMemory read = Unit {0}
SegFails (fault.Truncated p) read = read ≡ Err (fault.Truncated p)
SegFails (fault.OutOfProfile p) read = read ≡ Err (fault.OutOfProfile p)

-- What a function returned, seen by view, is what the reading gives, unless memory ran out.
abbrev pub SegGives : {X Y : Type 0} → (X → Y) → Result X SegFault → Result Y SegFault → Type 0
SegGives view (Ok x) read = read ≡ Ok (view x)
SegGives view (Err e) read = SegFails e read

-- a segment has 1 to 65,536 bytes
abbrev pub HasSize : Segment → Type 0
HasSize s = (1 ≤ s.size) × (s.size ≤ 65536)

abbrev pub AllSized : List Segment → Type 0
AllSized ss = (k : ℕ) (d : Segment) → k < length ss → HasSize (get_or ss k d)

-- a segment by its number from 1
abbrev pub nth_segment : ℕ → List Segment → Option Segment
nth_segment n ss = if n == 0 then None else slice_get ss (n - 1)
