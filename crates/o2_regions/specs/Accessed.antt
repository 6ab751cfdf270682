-- Accessed bits in tables of descriptors, and a list of places that tells them.
use Rattle.std.specs.Prelude.{◌≡◌, ◌⊎◌, ℕ, ◌/◌, ◌%◌, ◌<◌, ◌≤◌, Bool, true, false, List, [], length, Option, option_map, slice_index_or, slice_set}
use Rattle.o2_desc.specs.declared.descriptor.Descriptor.{Descriptor}
use Rattle.o2_desc.specs.Bits.{is_accessed, unmarked}
use Rattle.o2_desc.specs.Bytes.{entry}
use Rattle.o2_place.specs.declared.seg_id.SegId.{SegId}
use Rattle.o2_regions.specs.declared.held.Held.{Held}
use Rattle.o2_regions.specs.declared.listed.Listed.{Listed}
use Rattle.o2_regions.specs.Described.{entry_in}
use Rattle.o2_regions.specs.Maps.{Maps, held_at, table_of}

-- a table with the accessed bit of an entry cleared
abbrev pub unmark_at : List Descriptor → ℕ → List Descriptor
unmark_at ds i = slice_set ds i (record (entry ds i) { access = unmarked (entry ds i).access })

-- a place is among the first so many of a list
pub record IsAmong (places : List ℕ) (count p : ℕ) : Type 0 where
  pub at : ℕ
  pub below : at < count
  pub here : slice_index_or places at 0 ≡ p

-- a list has a place, or had no room for one
abbrev pub Lists : Listed → ℕ → Type 0
Lists l p = (l.more ≡ true) ⊎ IsAmong l.places l.count p

-- whether the accessed bit of a place is set
abbrev pub is_used : List (List Descriptor) → ℕ → Bool
is_used tables p = is_accessed (entry_in tables p).access

-- a list has each place whose accessed bit is set, or had no room for one
pub record AreListed (tables : List (List Descriptor)) (l : Listed) : Type 0 where
  pub few : l.count ≤ 256
  pub all : (p : ℕ) → is_used tables p ≡ true → Lists l p

-- no accessed bit is set
pub record NoneAccessed (tables : List (List Descriptor)) : Type 0 where
  pub none : (p : ℕ) → is_used tables p ≡ false

-- the accessed bit of a place was set, and is clear now
pub record ClearsPlace (old new : List (List Descriptor)) (p : ℕ) : Type 0 where
  pub inside : p / 8192 < length old
  pub was : is_used old p ≡ true
  pub now : new ≡ slice_set old (p / 8192) (unmark_at (slice_index_or old (p / 8192) []) (p % 8192))

-- the accessed bit of a process's index
abbrev pub is_used_at : Maps → ℕ → ℕ → Bool
is_used_at m pid i = is_accessed (entry (table_of m pid) i).access

-- the accessed bit of a process's index is clear
abbrev pub with_unused : Maps → ℕ → ℕ → Maps
with_unused m pid i = record m { tables = slice_set m.tables pid (unmark_at (table_of m pid) i) }

-- the segment of what is held
abbrev pub segment_of : Option Held → Option SegId
segment_of o = option_map (λ h. h.id) o

-- the accessed bit of an index at which this was held was set, and is clear now
pub record ClearsUse (old new : Maps) (o : Option SegId) : Type 0 where
  pub pid : ℕ
  pub index : ℕ
  pub small : index < 8192
  pub was : is_used_at old pid index ≡ true
  pub segment : segment_of (held_at old pid index) ≡ o
  pub now : new ≡ with_unused old pid index
