-- Clean segments are never written.
use Rattle.std.specs.Prelude.{◌≡◌, ℕ, true, false, Some, IsSome}
use Rattle.o2_desc.specs.Bits.{is_writable, rights_of}
use Rattle.o2_entries.specs.Tables.{slot_at}
use Rattle.o2_regions.specs.declared.held.Held.{Held}
use Rattle.o2_regions.specs.Maps.{Maps, held_at}
use Rattle.o2_store.specs.Shelf.{Shelf, entry, entry_of}
use Rattle.o2_segbus.specs.Settled.{descriptor_at}

-- no two live segments have one age
abbrev pub AreAged : Shelf → Type 0
AreAged s = (j k : ℕ) → IsSome (slot_at s.entries j) → IsSome (slot_at s.entries k)
    → (entry s j).age ≡ (entry s k).age → j ≡ k

-- each held segment is live
abbrev pub AreLive : Shelf → Maps → Type 0
AreLive s m = (pid i : ℕ) (h : Held) → held_at m pid i ≡ Some h → IsSome (entry_of s h.id)

-- what is held as data that can be written isn't clean
abbrev pub AreGuarded : Shelf → Maps → Type 0
AreGuarded s m = (pid i : ℕ) (h : Held) → held_at m pid i ≡ Some h
    → is_writable (rights_of (descriptor_at m pid i).access) ≡ true → (entry s h.id.key).attr.clean ≡ false
