-- A process holds a segment more often, or less.
use Rattle.std.specs.Prelude.{◌≡◌, ℕ, ◌-◌, ◌<◌, ◌≤◌, ◌&&◌, ◌||◌, ◌==◌, nat_le, nat_lt, not, true, false, Option, Some, None, IsSome, if◌then◌else◌}
use Rattle.o2_desc.specs.Bits.{is_writable, rights_of}
use Rattle.o2_entries.specs.Tables.{slot_at}
use Rattle.o2_place.specs.declared.seg_id.SegId.{SegId}
use Rattle.o2_regions.specs.declared.held.Held.{Held}
use Rattle.o2_regions.specs.declared.held.Region.{Region}
use Rattle.o2_regions.specs.Maps.{Maps, IsRegion, end_of, first_of, held_at, is_held, is_of, is_taken, less_of, more_of, region_of, same_region}
use Rattle.o2_segbus.specs.Settled.{descriptor_at}
use Rattle.o2_store.specs.Shelf.{Shelf, Removes, entry, place_of}

-- the rights to what a process holds at an index
abbrev pub rights_at : Maps → ℕ → ℕ → ℕ
rights_at m pid i = rights_of (descriptor_at m pid i).access

-- a segment that may be written by an access byte isn't clean
abbrev pub IsGuard : Shelf → SegId → (access : ℕ) → Type 0
IsGuard s id access = is_writable (rights_of access) ≡ true → (entry s id.key).attr.clean ≡ false

-- a process holds more at an index, with these rights where it held nothing there; all else that is held stays
pub record Grants (old new : Maps) (pid i : ℕ) (h : Held) (access : ℕ) : Type 0 where
  pub processes : new.processes ≡ old.processes
  pub held : (q j : ℕ) → held_at new q j ≡ (if (q == pid) && (j == i) then more_of (held_at old pid i) h else held_at old q j)
  pub here : held_at old pid i ≡ None → rights_at new pid i ≡ rights_of access
  pub rights : (q j : ℕ) → IsSome (held_at old q j) → rights_at new q j ≡ rights_at old q j

-- what is held goes on to be held as it is, with its rights; more may be held
pub record KeepsHolds (old new : Maps) : Type 0 where
  pub processes : new.processes ≡ old.processes
  pub held : (q j : ℕ) (h : Held) → held_at old q j ≡ Some h → held_at new q j ≡ Some h
  pub rights : (q j : ℕ) → IsSome (held_at old q j) → rights_at new q j ≡ rights_at old q j

-- an index of its region may no longer be chosen, and of all others the same may
abbrev pub TakesIndex : Maps → Maps → ℕ → ℕ → Type 0
TakesIndex old new pid i = (g : Region) (j : ℕ) → IsRegion old g → first_of g ≤ j → j < end_of g
    → is_taken new g j ≡ ((same_region g (region_of pid i) && (j == i)) || is_taken old g j)

-- nobody holds the segment
abbrev pub IsUnheld : Maps → SegId → Type 0
IsUnheld m id = (pid i : ℕ) → is_of id (held_at m pid i) ≡ false

-- a process holds less at an index; all else that is held stays
pub record Takes (old new : Maps) (pid i : ℕ) : Type 0 where
  pub processes : new.processes ≡ old.processes
  pub held : (q j : ℕ) → held_at new q j ≡ (if (q == pid) && (j == i) then less_of (held_at old pid i) else held_at old q j)
  pub rights : (q j : ℕ) → IsSome (held_at new q j) → rights_at new q j ≡ rights_at old q j

-- what is held at an index with so many holds less there
abbrev pub less_by : ℕ → Option Held → Option Held
less_by count None = None
less_by count (Some was) = if was.holds - count == 0 then None else Some (record was { holds = was.holds - count })

-- a process holds so many holds less at an index; all else that is held stays
pub record TakesSome (old new : Maps) (pid i count : ℕ) : Type 0 where
  pub processes : new.processes ≡ old.processes
  pub held : (q j : ℕ) → held_at new q j ≡ (if (q == pid) && (j == i) then less_by count (held_at old pid i) else held_at old q j)
  pub rights : (q j : ℕ) → IsSome (held_at new q j) → rights_at new q j ≡ rights_at old q j

-- an index may be chosen again where nobody of its region holds it any more, and of all others the same may
abbrev pub FreesIndex : Maps → Maps → ℕ → ℕ → Type 0
FreesIndex old new pid i = (g : Region) (j : ℕ) → IsRegion old g → first_of g ≤ j → j < end_of g
    → is_taken new g j ≡ (if same_region g (region_of pid i) && (j == i) then is_held new g j else is_taken old g j)

-- Where nobody of its region holds the first index of a run, each of its indexes that nobody holds may be chosen again, up to the one
-- before its end; and of all others the same may.
abbrev pub FreesRun : Maps → Maps → (pid first end : ℕ) → Type 0
FreesRun old new pid first end = (g : Region) (j : ℕ) → IsRegion old g → first_of g ≤ j → j < end_of g
    → is_taken new g j ≡ (if not (is_held old (region_of pid first) first) && (same_region g (region_of pid j) && (nat_le first j && nat_lt j end)) then is_held new g j else is_taken old g j)

-- each segment that goes on to live stays where it is
abbrev pub KeepsPlaces : Shelf → Shelf → Type 0
KeepsPlaces old new = (k : ℕ) → IsSome (slot_at new.entries k) → place_of new k ≡ place_of old k

-- a segment that nobody holds is gone, and else all segments stay
pub data Sweeps (old new : Shelf) (m : Maps) (id : SegId) : Type 0 where
  Goes : IsUnheld m id → Removes old new id.key → Sweeps old new m id
  Remains : (pid i : ℕ) → is_of id (held_at m pid i) ≡ true → new ≡ old → Sweeps old new m id
