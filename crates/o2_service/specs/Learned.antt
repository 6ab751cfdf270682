-- What the clock learns of accessed bits.
use Rattle.std.specs.Prelude.{◌≡◌, ◌⊎◌, ℕ, ◌<◌, length, slice_set, Option, Some, None, IsSome, true, false}
use Rattle.o2_place.specs.declared.clock.Mark.{Mark}
use Rattle.o2_place.specs.declared.seg_id.SegId.{SegId}
use Rattle.o2_place.specs.Marks.{mark_of}
use Rattle.o2_regions.specs.declared.held.Held.{Held}
use Rattle.o2_regions.specs.Accessed.{is_used_at}
use Rattle.o2_regions.specs.Maps.{Maps, held_at, table_of}
use Rattle.o2_desc.specs.Bits.{unmarked}
use Rattle.o2_segbus.specs.Settled.{descriptor_at}
use Rattle.o2_store.specs.Shelf.{Shelf, entry, place_of}

-- accessed bits are cleared, and nothing else changes
pub record ClearsBits (old new : Maps) : Type 0 where
  pub rest : new ≡ record old { tables = new.tables }
  pub lengths : (pid : ℕ) → length (table_of new pid) ≡ length (table_of old pid)
  pub base : (pid i : ℕ) → (descriptor_at new pid i).base ≡ (descriptor_at old pid i).base
  pub limit : (pid i : ℕ) → (descriptor_at new pid i).limit ≡ (descriptor_at old pid i).limit
  pub access : (pid i : ℕ) → unmarked (descriptor_at new pid i).access ≡ unmarked (descriptor_at old pid i).access
  pub fewer : (pid i : ℕ) → is_used_at old pid i ≡ false → is_used_at new pid i ≡ false

-- the mark of a segment that was used
abbrev pub used_mark : Mark
used_mark = record { present = true; used = true }

-- a number's segment is in memory, and isn't locked
pub record IsLoose (s : Shelf) (k : ℕ) : Type 0 where
  pub place : IsSome (place_of s k)
  pub unlocked : (entry s k).attr.lock ≡ 0

-- Accessed bits are cleared. Of each that was set at an index at which a segment is held that is in memory and isn't locked, the
-- clock learns that this segment was used; of no other segment does its mark change, and nothing else does.
pub record Learns (s t : Shelf) (m n : Maps) : Type 0 where
  pub rest : t ≡ record s { turns = t.turns }
  pub count : length t.turns.marks ≡ length s.turns.marks
  pub bits : ClearsBits m n
  pub used : (pid i : ℕ) (h : Held) → held_at m pid i ≡ Some h → is_used_at m pid i ≡ true → is_used_at n pid i ≡ false
      → IsLoose s h.id.key → mark_of t.turns.marks h.id.key ≡ used_mark
  pub stay : (k : ℕ) → mark_of s.turns.marks k ≡ used_mark → mark_of t.turns.marks k ≡ used_mark
  pub others : (k : ℕ) → ((pid i : ℕ) (h : Held) → held_at m pid i ≡ Some h → h.id.key ≡ k → is_used_at m pid i ≡ false)
      → mark_of t.turns.marks k ≡ mark_of s.turns.marks k

-- no accessed bit is set of an index at which a process holds something
pub record AreUnused (m : Maps) : Type 0 where
  pub each : (pid i : ℕ) (h : Held) → held_at m pid i ≡ Some h → is_used_at m pid i ≡ false

-- the same for one process, below an index
pub record AreUnusedBelow (m : Maps) (pid n : ℕ) : Type 0 where
  pub each : (i : ℕ) (h : Held) → i < n → held_at m pid i ≡ Some h → is_used_at m pid i ≡ false

-- the clock is told of one segment, where it is in memory and not locked
pub record TouchesOne (s t : Shelf) (id : SegId) : Type 0 where
  pub rest : t ≡ record s { turns = t.turns }
  pub marks : (t.turns.marks ≡ s.turns.marks) ⊎ (t.turns.marks ≡ slice_set s.turns.marks id.key used_mark)
  pub loose : IsLoose s id.key → t.turns.marks ≡ slice_set s.turns.marks id.key used_mark

-- the clock is told of the segment of a use, if there is one
abbrev pub Touches : Shelf → Shelf → Option (Option SegId) → Type 0
Touches s t (Some (Some id)) = TouchesOne s t id
Touches s t (Some None) = t ≡ s
Touches s t None = t ≡ s

-- the same for the processes below a number
pub record AreUnusedTo (m : Maps) (n : ℕ) : Type 0 where
  pub each : (pid i : ℕ) (h : Held) → pid < n → held_at m pid i ≡ Some h → is_used_at m pid i ≡ false
