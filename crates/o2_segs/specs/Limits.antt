-- What a call leaves of how large a store is, and of what is held.
use Rattle.std.specs.Prelude.{◌≡◌, ◌≢◌, ℕ, ◌+◌, ◌≤◌, length, IsSome, Option}
use Rattle.o2_entries.specs.declared.Entry.{Entry}
use Rattle.o2_entries.specs.Tables.{slot_at}
use Rattle.o2_regions.specs.declared.answer.Roomed.{Roomed}
use Rattle.o2_regions.specs.declared.answer.Roomed.TheVariants.{Done, NoRoom, SwapFull, SwapFault}
use Rattle.o2_regions.specs.Maps.{Maps}
use Rattle.o2_store.specs.Shelf.{Shelf, entry_or}
use Rattle.o2_segs.specs.Sharing.{AreHeldAtMost, KeepsShares}

-- The memory is as large, as many segments may live, and at most so many were made; nothing is held more often than before but for so
-- many holds; and what processes share stays as it was.
pub record KeepsLimitsBy (s : Shelf) (m : Maps) (t : Shelf) (n : Maps) (more holds : ℕ) : Type 0 where
  pub size : t.places.size ≡ s.places.size
  pub count : length t.entries ≡ length s.entries
  pub made : t.made ≤ s.made + more
  pub grows : s.made ≤ t.made
  pub few : (k : ℕ) → 1 ≤ k → AreHeldAtMost m k → AreHeldAtMost n (k + holds)
  pub shares : KeepsShares s m t n s.made

-- where nothing is held more often
abbrev pub KeepsLimits : (s : Shelf) (m : Maps) (t : Shelf) (n : Maps) (more : ℕ) → Type 0
KeepsLimits s m t n more = KeepsLimitsBy s m t n more 0

-- a segment that was made last is unmade: nothing that was there before it has changed
pub record IsUndone (s : Shelf) (m : Maps) (t : Shelf) (n : Maps) : Type 0 where
  pub size : t.places.size ≡ s.places.size
  pub count : length t.entries ≡ length s.entries
  pub made : s.made ≡ t.made + 1
  pub few : (k : ℕ) → 1 ≤ k → AreHeldAtMost m k → AreHeldAtMost n (k + 0)
  pub shares : KeepsShares s m t n t.made

-- What lives goes on to live under its number, with its age and its size.

abbrev pub KeepsEntry : (old new : Option Entry) → Type 0
KeepsEntry old new = IsSome new × ((entry_or new).age ≡ (entry_or old).age) × ((entry_or new).size ≡ (entry_or old).size)

pub record KeepsEntries (s t : Shelf) : Type 0 where
  pub each : (k : ℕ) → IsSome (slot_at s.entries k) → KeepsEntry (slot_at s.entries k) (slot_at t.entries k)

-- all but one
pub record KeepsOthers (s t : Shelf) (key : ℕ) : Type 0 where
  pub each : (k : ℕ) → k ≢ key → IsSome (slot_at s.entries k) → KeepsEntry (slot_at s.entries k) (slot_at t.entries k)

-- how many segments a call makes at most: none where it stops
abbrev pub made_in : Roomed → ℕ
made_in (Done a) = 1
made_in NoRoom = 0
made_in SwapFull = 0
made_in SwapFault = 0
