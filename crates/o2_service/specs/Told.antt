-- Descriptors that agree with where the store has segments.
use Rattle.std.specs.Prelude.{◌≡◌, ◌≢◌, ℕ, ◌<◌, drop, length, Option, Some, None, IsSome}
use Rattle.o2_desc.specs.declared.descriptor.Descriptor.{Descriptor}
use Rattle.o2_desc.specs.Bits.{rights_of}
use Rattle.o2_desc.specs.Bytes.{empty}
use Rattle.o2_place.specs.Layout.{find_in}
use Rattle.o2_regions.specs.declared.held.Held.{Held}
use Rattle.o2_regions.specs.Maps.{Maps, held_at, table_of}
use Rattle.o2_segbus.specs.Settled.{Describes, IsSettled, descriptor_at}
use Rattle.o2_store.specs.Shelf.{Shelf, entry, entry_of, place_of}
use Rattle.o2_service.specs.Learned.{AreUnused}

-- a descriptor says where the store has the segment that is held, if this holds of the segment's number; and is empty where nothing is held
abbrev pub IsToldWhere : (ℕ → Type 0) → Shelf → Option Held → Descriptor → Type 0
IsToldWhere P s None d = d ≡ empty
IsToldWhere P s (Some h) d = P h.id.key → Describes (place_of s h.id.key) (entry s h.id.key).size (rights_of d.access) d

-- each descriptor of each process agrees with the store, for the segments of whose numbers this holds
pub record AreToldWhere (P : ℕ → Type 0) (s : Shelf) (m : Maps) : Type 0 where
  pub each : (pid i : ℕ) → IsToldWhere P s (held_at m pid i) (descriptor_at m pid i)

-- the same for the numbers below n
abbrev pub AreToldBelow : ℕ → Shelf → Maps → Type 0
AreToldBelow n s m = AreToldWhere (λ k. k < n) s m

-- the same for all numbers but one
abbrev pub AreToldBut : ℕ → Shelf → Maps → Type 0
AreToldBut key s m = AreToldWhere (λ k. k ≢ key) s m

-- the same for all but the n-th segment in memory by rising place and those behind it
abbrev pub AreToldBefore : ℕ → Shelf → Maps → Type 0
AreToldBefore n s m = AreToldWhere (λ k. find_in (drop n s.places.ranges) k ≡ None) s m

-- what is held is live, and each index at which something is held has an entry in its process's table
pub record IsHeldWell (s : Shelf) (m : Maps) : Type 0 where
  pub live : (pid i : ℕ) (h : Held) → held_at m pid i ≡ Some h → IsSome (entry_of s h.id)
  pub inside : (pid i : ℕ) (h : Held) → held_at m pid i ≡ Some h → i < length (table_of m pid)

-- descriptors may change, but for the rights in them, and nothing else
pub record OnlyTables (old new : Maps) : Type 0 where
  pub rest : new ≡ record old { tables = new.tables }
  pub lengths : (pid : ℕ) → length (table_of new pid) ≡ length (table_of old pid)
  pub rights : (pid i : ℕ) → rights_of (descriptor_at new pid i).access ≡ rights_of (descriptor_at old pid i).access

-- descriptors follow the store: each says where its segment is now, and nothing else changes; what is held stays live
pub record Follows (old : Maps) (s : Shelf) (new : Maps) : Type 0 where
  pub maps : OnlyTables old new
  pub held : IsHeldWell s new
  pub settled : IsSettled s new
  pub unused : AreUnused old → AreUnused new
