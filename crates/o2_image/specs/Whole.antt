-- What lies in the file of a module that passed every check.
use Rattle.std.specs.Prelude.{◌≡◌, ℕ, ◌+◌, ◌*◌, ◌<◌, ◌≤◌, true, false, List, Some, length, get_or, IsTrue}
use Rattle.std.specs.List.{AllByRecursion}
use Rattle.o2_ne.specs.declared.head.Head.{Head}
use Rattle.o2_ne.specs.NameTable.{IsOwnName}
use Rattle.o2_ne.specs.Words.{byte_at}
use Rattle.o2_ne_segs.specs.declared.reloc.Reloc.{Reloc}
use Rattle.o2_ne_segs.specs.declared.segment.Segment.{Segment}
use Rattle.o2_ne_segs.specs.Records.{end_of, reloc_at, reloc_count}
use Rattle.o2_ne_segs.specs.SegmentTable.{AllSized, nth_segment}
use Rattle.o2_image.specs.Chains.{places}
use Rattle.o2_image.specs.Modules.{is_writable}
use Rattle.o2_image.specs.Parts.{Parts}
use Rattle.o2_image.specs.Records.{bytes_of, has_one_place}
use Rattle.o2_image.specs.References.{reference_place, reference_word}
use Rattle.o2_image.specs.Targets.{is_fixup, width_of}

-- a string: its length byte, and its bytes
pub record HasString (file : List ℕ) (p : ℕ) : Type 0 where
  pub first : p < length file
  pub rest : p + 1 + byte_at file p ≤ length file

-- the word and the name of a reference
pub record HasReference (file : List ℕ) (h : Head) (k : ℕ) : Type 0 where
  pub word : reference_word h k + 2 ≤ length file
  pub name : HasString file (reference_place file h k)

-- the count word of a segment's records, and their rows
abbrev pub HasCount : List ℕ → Segment → Type 0
HasCount file s = IsTrue s.relocs → end_of s + 2 ≤ length file

abbrev pub HasRelocs : List ℕ → Segment → Type 0
HasRelocs file s = 0 < reloc_count file s → end_of s + 2 + 8 * reloc_count file s ≤ length file

-- a word stands at each place
abbrev pub Fit : List ℕ → List ℕ → Type 0
Fit bytes ps = AllByRecursion (λ p. p + 2 ≤ length bytes) ps

-- the places of a record
pub record HasPlaces (bytes : List ℕ) (r : Reloc) : Type 0 where
  pub one : is_fixup r ≡ false → has_one_place r ≡ true → r.place + width_of r.source ≤ length bytes
  pub chain : is_fixup r ≡ false → has_one_place r ≡ false → Fit bytes (places bytes 65536 r.place)

-- a segment's bytes, its records and their places
pub record HasSegment (file : List ℕ) (s : Segment) : Type 0 where
  pub bytes : end_of s ≤ length file
  pub count : HasCount file s
  pub relocs : HasRelocs file s
  pub places : (j : ℕ) → j < reloc_count file s → HasPlaces (bytes_of file s) (reloc_at file (end_of s + 2 + 8 * j))

-- the automatic data segment, where there is one, is writable, and fits a segment together with stack and heap
abbrev pub HasAutoData : Head → List Segment → Type 0
HasAutoData h ss =
    (s : Segment) → nth_segment h.auto_seg ss ≡ Some s → IsTrue (is_writable s.kind) × (s.size + h.stack + h.heap ≤ 65536)

-- what a run of a checked module goes by: its name has 1 to 255 bytes without a line end, it has at most 254 segments of 1 to
-- 65,536 bytes with a list of records for each, as many references as its header says, and automatic data that fits
pub record IsRunnable (m : Parts) : Type 0 where
  pub own : IsOwnName m.names.own
  pub few : length m.segments ≤ 254
  pub sizes : AllSized m.segments
  pub auto : HasAutoData m.head m.segments
  pub references : length m.references ≡ m.head.references
  pub records : length m.relocs ≡ length m.segments

pub record IsWhole (file : List ℕ) (h : Head) (ss : List Segment) : Type 0 where
  pub short : length file ≤ 4194304
  pub inside : h.at + 64 ≤ length file
  pub references : (k : ℕ) → k < h.references → HasReference file h k
  pub few : length ss ≤ 254
  pub segments : (k : ℕ) (d : Segment) → k < length ss → HasSegment file (get_or ss k d)
  pub auto : HasAutoData h ss
