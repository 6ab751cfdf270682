-- What the descriptors of processes say of the segments that they hold.
use Rattle.std.specs.Prelude.{◌≡◌, ℕ, ◌+◌, Option, Some, None, is_some, slice_index_or}
use Rattle.o2_desc.specs.declared.descriptor.Descriptor.{Descriptor}
use Rattle.o2_desc.specs.Bits.{with_present, rights_of, unmarked}
use Rattle.o2_desc.specs.Bytes.{empty}
use Rattle.o2_regions.specs.declared.held.Held.{Held}
use Rattle.o2_regions.specs.Maps.{Maps, held_at, table_of}
use Rattle.o2_store.specs.Shelf.{Shelf, entry, place_of}

-- the address of a place's first byte, and 0 outside the memory
abbrev pub start_of : Option (ℕ × ℕ) → ℕ
start_of None = 0
start_of (Some r) = r.0

-- the descriptor of a segment by its place in memory, its size and the rights to it: present exactly where it has a place,
-- with any accessed bit; the base is the address of its first byte, 0 where it has none, and the limit its size less 1
pub record Describes (place : Option (ℕ × ℕ)) (size rights : ℕ) (d : Descriptor) : Type 0 where
  pub base : d.base ≡ start_of place
  pub limit : d.limit + 1 ≡ size
  pub access : unmarked d.access ≡ with_present rights (is_some place)

-- the descriptor of a process's index
abbrev pub descriptor_at : Maps → ℕ → ℕ → Descriptor
descriptor_at m pid i = slice_index_or (table_of m pid) i empty

-- a descriptor is that of the segment that is held, with the rights that it has; and empty where nothing is held
abbrev pub IsSettledAt : Shelf → Option Held → Descriptor → Type 0
IsSettledAt s None d = d ≡ empty
IsSettledAt s (Some h) d = Describes (place_of s h.id.key) (entry s h.id.key).size (rights_of d.access) d

-- each descriptor of each process agrees with the store
abbrev pub IsSettled : Shelf → Maps → Type 0
IsSettled s m = (pid i : ℕ) → IsSettledAt s (held_at m pid i) (descriptor_at m pid i)
