-- What is told of a machine fits the fields of an image: it comes of numbers of their sizes, and of blocks of 512 bytes.
use Rattle.std.specs.Prelude.{◌≡◌, ℕ, ◌<◌, ◌^◌, List, length, Option, Some, None, slice_index_or}
use Rattle.o2_dump_laws.specs.Whole.{AreWords}
use Rattle.o2_regions.specs.declared.held.Held.{Held}
use Rattle.o2_store.specs.declared.brought.Place.{Place}
use Rattle.o2_store.specs.declared.brought.Place.TheVariants.{Zeros, Image, Memory, Blocks}
use Rattle.o2_store.specs.Shelf.{Shelf, entry, place_of, shown_at}
use Rattle.o2_swapmap.specs.Piles.{blocks_of}
use Rattle.o2_dumping.specs.Told.{Row}

-- the numbers of an image's module and segment are words
abbrev pub IsFitPlace : Place → Type 0
IsFitPlace Zeros = Unit {0}
IsFitPlace (Image m k) = (m < 2 ^ 16) × (k < 2 ^ 16)
IsFitPlace (Memory base) = Unit {0}
IsFitPlace Blocks = Unit {0}

-- the first so many of these blocks have 512 bytes
abbrev pub AreLong : (block : ℕ → List ℕ) → List ℕ → ℕ → Type 0
AreLong block bs count = (i : ℕ) → i < count → length (block (slice_index_or bs i 0)) ≡ 512

-- the place of a number's segment fits, and its blocks do where it has its bytes in them
pub record FitsAt (s : Shelf) (block : ℕ → List ℕ) (k : ℕ) : Type 0 where
  pub place : IsFitPlace (shown_at (place_of s k) (entry s k))
  pub blocks : shown_at (place_of s k) (entry s k) ≡ Blocks → AreLong block (blocks_of s.swap k) (length (blocks_of s.swap k))

-- a number of holds fits four bytes
abbrev pub IsFitHold : Option Held → Type 0
IsFitHold None = Unit {0}
IsFitHold (Some h) = h.holds < 2 ^ 32

-- registers and code are words
pub record IsFitRow (p : Row) : Type 0 where
  pub registers : AreWords p.0
  pub code : p.2 < 2 ^ 16
