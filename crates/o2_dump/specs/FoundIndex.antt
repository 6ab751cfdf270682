-- The segments that were read so far, by their ranges in memory and by their swap blocks.
use Rattle.std.specs.Prelude.{◌≡◌, ℕ, ◌+◌, ◌<◌, ◌≤◌, ◌==◌, ◌&&◌, Bool, true, false, List, Option, Some, None, IsSome}
use Rattle.std.specs.List.{list_any}
use Rattle.std.specs.Ordering.{nat_cmp}
use Rattle.std.specs.BTreeMap as tree
use Rattle.std.specs.BTreeMap.{BTreeMap}
use Rattle.std.specs.BTreeSet as sorted
use Rattle.std.specs.BTreeSet.{BTreeSet}
use Rattle.o2_dump.specs.declared.parts.Place.{Place}
use Rattle.o2_dump.specs.declared.parts.Place.TheVariants.{Zeros, Image, Memory, Swap}
use Rattle.o2_dump.specs.declared.parts.SegmentEntry.{SegmentEntry}
use Rattle.o2_dump.specs.SegmentEntries.{rounded, has_block, is_free}

-- a segment of n bytes at this place has the range from b to x
abbrev pub has_range : ℕ → ℕ → Place → ℕ → Bool
has_range b x (Memory base) n = base == b && base + rounded n == x
has_range b x Zeros n = false
has_range b x (Image m k) n = false
has_range b x (Swap bs) n = false

-- one of the segments has it
abbrev pub is_range_of : List SegmentEntry → ℕ → ℕ → Bool
is_range_of found b x = list_any (λ e. has_range b x e.place e.size) found

-- The map has the end of each range of these segments by its base. No range is empty, and no two share a byte.
pub record AreRanges (found : List SegmentEntry) (ranges : BTreeMap ℕ ℕ) : Type 0 where
  pub listed : (b x : ℕ) → tree.get nat_cmp ranges b ≡ Some x → is_range_of found b x ≡ true
  pub complete : (b x : ℕ) → is_range_of found b x ≡ true → tree.get nat_cmp ranges b ≡ Some x
  pub long : (b x : ℕ) → tree.get nat_cmp ranges b ≡ Some x → b < x
  pub apart : (b x c y : ℕ) → tree.get nat_cmp ranges b ≡ Some x → tree.get nat_cmp ranges c ≡ Some y → b < c → x ≤ c

-- The set has the numbers of these segments' blocks.
abbrev pub AreBlocks : List SegmentEntry → BTreeSet ℕ → Type 0
AreBlocks found blocks = (n : ℕ) → sorted.contains nat_cmp blocks n ≡ list_any (λ e. has_block n e.place) found

-- Both.
pub record IsIndexed (found : List SegmentEntry) (ranges : BTreeMap ℕ ℕ) (blocks : BTreeSet ℕ) : Type 0 where
  pub by_base : AreRanges found ranges
  pub by_block : AreBlocks found blocks

-- a segment of n bytes at this place shares no byte of the memory with those found
abbrev pub fits : List SegmentEntry → ℕ → Place → Bool
fits found n (Memory base) = is_free found base n
fits found n Zeros = true
fits found n (Image m k) = true
fits found n (Swap bs) = true

-- the end of the last range that begins below a place, where one does
abbrev pub IsLastBelow : BTreeMap ℕ ℕ → ℕ → Option ℕ → Type 0
IsLastBelow ranges top (Some x) =
    (b : ℕ) × (b < top) × (tree.get nat_cmp ranges b ≡ Some x)
    × ((c : ℕ) → c < top → IsSome (tree.get nat_cmp ranges c) → c ≤ b)
IsLastBelow ranges top None = (c : ℕ) → c < top → tree.get nat_cmp ranges c ≡ None
