-- The image of a segment: its bytes in the file, with the patches of its records.
use Rattle.std.specs.Prelude.{ℕ, ◌+◌, ◌-◌, ◌/◌, ◌%◌, ◌==◌, ◌&&◌, Bool, List, [], ◌∷◌, ◌++◌, Option, Some, None, length, fold, map, nat_le, nat_lt, slice_index, if◌then◌else◌}
use Rattle.o2_ne.specs.Words.{byte_at, word_at}
use Rattle.o2_ne.specs.Steps.{tabulate}
use Rattle.o2_ne_segs.specs.declared.reloc.Reloc.{Reloc}
use Rattle.o2_ne_segs.specs.declared.segment.Segment.{Segment}
use Rattle.o2_ne_segs.specs.SegmentTable.{nth_segment}
use Rattle.o2_image.specs.Getters.{nth_list}
use Rattle.o2_image.specs.Parts.{Parts}
use Rattle.o2_image.specs.Targets.{is_additive, is_fixup}
use Rattle.o2_image.specs.Chains.{places}
use Rattle.o2_image.specs.Records.{bytes_of, has_one_place}

-- where a record leads: a selector and an offset
abbrev pub Target : Type 0
Target = ℕ × ℕ

-- some bytes at a place
pub record Patch : Type 0 where
  pub place : ℕ
  pub bytes : List ℕ

abbrev pub word_bytes : ℕ → List ℕ
word_bytes w = w % 256 ∷ w / 256 ∷ []

-- the offset part, to which an additive record adds what the file holds at its place
abbrev pub offset_part : Reloc → ℕ → ℕ → ℕ
offset_part r held offset = if is_additive r then (held + offset) % 65536 else offset

-- what a record puts at place p: a low byte, a selector, a far pointer or an offset
abbrev pub patch_bytes : List ℕ → Reloc → Target → ℕ → List ℕ
patch_bytes bytes r t p =
    if r.source == 0 then offset_part r (byte_at bytes p) t.1 % 256 ∷ []
    else (if r.source == 2 then word_bytes t.0
    else (if r.source == 3 then word_bytes (offset_part r (word_at bytes p) t.1) ++ word_bytes t.0
    else word_bytes (offset_part r (word_at bytes p) t.1)))

-- the places of a record, in the file's words before any patch
abbrev pub places_of : List ℕ → Reloc → List ℕ
places_of bytes r = if has_one_place r then r.place ∷ [] else places bytes 65536 r.place

abbrev pub patch_at : List ℕ → Reloc → Target → ℕ → Patch
patch_at bytes r t p = record { place = p; bytes = patch_bytes bytes r t p }

-- one patch for each place; a system fixup has none
abbrev pub patches_of : List ℕ → Reloc → Target → List Patch
patches_of bytes r t = if is_fixup r then [] else map (patch_at bytes r t) (places_of bytes r)

-- the patches of some records with their targets
abbrev pub all_patches : List ℕ → List Reloc → List Target → List Patch
all_patches bytes [] ts = []
all_patches bytes (r ∷ rs) [] = []
all_patches bytes (r ∷ rs) (t ∷ ts) = patches_of bytes r t ++ all_patches bytes rs ts

abbrev pub covers : Patch → ℕ → Bool
covers p i = nat_le p.place i && nat_lt i (p.place + length p.bytes)

-- the byte at i, once a patch is made
abbrev pub byte_after : ℕ → ℕ → Patch → ℕ
byte_after i old p = if covers p i then slice_index p.bytes (i - p.place) else old

-- byte i of the image: that of a patch that covers it, else the file's, else 0
abbrev pub image_byte : List ℕ → List Patch → ℕ → ℕ
image_byte bytes patches i = fold (byte_after i) (slice_index bytes i) patches

-- the first n bytes of the image
abbrev pub image : List ℕ → List Patch → ℕ → List ℕ
image bytes patches n = tabulate (image_byte bytes patches) 0 n

-- the first n bytes of the image of segment `seg` of a module, whose records have these targets
abbrev pub image_in : Parts → List (List Target) → ℕ → Option Segment → ℕ → List ℕ
image_in m targets seg None n = image [] [] n
image_in m targets seg (Some s) n =
    image (bytes_of m.file s) (all_patches (bytes_of m.file s) (nth_list m.relocs seg) (nth_list targets seg)) n

abbrev pub segment_image : Parts → List (List Target) → ℕ → ℕ → List ℕ
segment_image m targets seg n = image_in m targets seg (nth_segment seg m.segments) n
