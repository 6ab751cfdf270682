-- Segments that lie apart: their ranges in memory share no byte, and no block is named twice. So the rules of the format have it of a
-- whole image; here it is without the sizes of fields and of blocks.
use Rattle.std.specs.Prelude.{◌≡◌, ℕ, List, [], ◌∷◌, ◌++◌, length, true}
use Rattle.o2_dump.specs.declared.parts.Block.{Block}
use Rattle.o2_dump.specs.declared.parts.Place.{Place}
use Rattle.o2_dump.specs.declared.parts.Place.TheVariants.{Zeros, Image, Memory, Swap}
use Rattle.o2_dump.specs.declared.parts.SegmentEntry.{SegmentEntry}
use Rattle.o2_dump.specs.declared.reader.Core.{Core}
use Rattle.o2_dump.specs.SegmentEntries.{is_block, is_range}

-- each block is on a device of so many, holds nothing of the segments found, and isn't one of the same segment's own before it
abbrev pub AreBlocksApart : (blocks : ℕ) → (found : List SegmentEntry) → (own : List Block) → List Block → Type 0
AreBlocksApart blocks found own [] = Unit {0}
AreBlocksApart blocks found own (b ∷ bs) = (is_block blocks found own b.number ≡ true) × AreBlocksApart blocks found (own ++ b ∷ []) bs

-- the place of a segment of this size: its range lies in the memory, and none of the segments found has a byte of it
abbrev pub IsPlaceApart : (memory blocks : ℕ) → (found : List SegmentEntry) → (size : ℕ) → Place → Type 0
IsPlaceApart memory blocks found size Zeros = Unit {0}
IsPlaceApart memory blocks found size (Image m k) = Unit {0}
IsPlaceApart memory blocks found size (Memory base) = is_range memory found base size ≡ true
IsPlaceApart memory blocks found size (Swap bs) = AreBlocksApart blocks found [] bs

-- each segment behind those found
abbrev pub AreApart : (memory blocks : ℕ) → (found : List SegmentEntry) → List SegmentEntry → Type 0
AreApart memory blocks found [] = Unit {0}
AreApart memory blocks found (e ∷ es) = IsPlaceApart memory blocks found e.size e.place × AreApart memory blocks (found ++ e ∷ []) es

-- the segments of an image
pub record IsApart (c : Core) : Type 0 where
  pub segments : AreApart (length c.memory) c.blocks [] c.segments
