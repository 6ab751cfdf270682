-- What a process lets go of, and what goes with it.
use Rattle.std.specs.Prelude.{◌≡◌, ℕ, ◌+◌, ◌&&◌, ◌==◌, min, nat_le, nat_lt, not, Bool, true, false, List, length, if◌then◌else◌, Some, None, IsSome, is_some}
use Rattle.std.specs.List.{list_any}
use Rattle.o2_desc.specs.Bytes.{empty}
use Rattle.o2_entries.specs.Tables.{slot_at}
use Rattle.o2_place.specs.declared.seg_id.SegId.{SegId}
use Rattle.o2_regions.specs.declared.held.Cause.{Cause}
use Rattle.o2_regions.specs.declared.held.Cause.TheVariants.{Alias, Called, Loaded}
use Rattle.o2_regions.specs.declared.held.Held.{Held}
use Rattle.o2_regions.specs.declared.held.Region.TheVariants.{Private, Shared}
use Rattle.o2_regions.specs.Maps.{Maps, held_at, is_of, is_reserved, some_holds, table_of}
use Rattle.o2_segbus.specs.Settled.{descriptor_at}
use Rattle.o2_store.specs.Shelf.{Pictures, Shelf, byte_at, numbered, place_of}
use Rattle.o2_swapmap.specs.Piles.{all_of}
use Rattle.o2_stands.specs.Runs.{AreRuns, Covers, IsMember}
use Rattle.o2_stands.specs.Stands.{IsIndex}

abbrev pub is_loaded : Cause → Bool
is_loaded Loaded = true
is_loaded Called = false
is_loaded Alias = false

-- a shared index that was held by this cause isn't reserved for the whole run, and nobody holds it
abbrev pub is_left : Maps → ℕ → Cause → Bool
is_left m i cause = not (is_loaded cause) && not (some_holds m i m.processes)

-- Runs. The index behind the last one of a stretch, as far as there are indexes.
abbrev pub end_in : Held → ℕ
end_in h = min (h.first + h.reserved) 8192

-- what a process holds at an index is the last member of its run that it holds: it lies in the stretch, of which the process doesn't
-- hold the next index
abbrev pub is_last_member : Maps → (pid i : ℕ) → Held → Bool
is_last_member m pid i h = nat_le h.first i && not (nat_lt (i + 1) (end_in h) && is_some (held_at m pid (i + 1)))

-- a shared index of the stretch of what was held, which nobody holds, nor the run's first index
abbrev pub is_left_of : Maps → Held → ℕ → Bool
is_left_of m h j = (nat_le h.first j && nat_lt j (end_in h)) && (not (some_holds m h.first m.processes) && not (some_holds m j m.processes))

-- a shared index isn't reserved any more, once a process has let go of what it held at one: that one alone, or those of a run with
-- the last member that the process held
abbrev pub goes_with : Maps → (pid i : ℕ) → Held → ℕ → Bool
goes_with m pid i h j = not (nat_lt i 4096) && (if h.reserved == 0 then (j == i) && is_left m i h.cause else is_last_member m pid i h && is_left_of m h j)

-- shared indexes that pass a test aren't reserved any more, and all else stays
pub record FreesShared (old new : Maps) (test : ℕ → Bool) : Type 0 where
  pub maps : new ≡ record old { reserved = new.reserved }
  pub own : (q i : ℕ) → IsIndex old (Private q) i → is_reserved new (Private q) i ≡ is_reserved old (Private q) i
  pub shared : (j : ℕ) → IsIndex old Shared j → is_reserved new Shared j ≡ (if test j then false else is_reserved old Shared j)

-- the same of what is reserved alone
pub record FreesAt (old new : Maps) (test : ℕ → Bool) : Type 0 where
  pub own : (q i : ℕ) → IsIndex old (Private q) i → is_reserved new (Private q) i ≡ is_reserved old (Private q) i
  pub shared : (j : ℕ) → IsIndex old Shared j → is_reserved new Shared j ≡ (if test j then false else is_reserved old Shared j)

-- no index of a process's own is reserved any more, and all else stays
pub record FreesOwn (old new : Maps) (pid : ℕ) : Type 0 where
  pub maps : new ≡ record old { reserved = new.reserved }
  pub own : (q i : ℕ) → IsIndex old (Private q) i → is_reserved new (Private q) i ≡ (if q == pid then false else is_reserved old (Private q) i)
  pub shared : (j : ℕ) → IsIndex old Shared j → is_reserved new Shared j ≡ is_reserved old Shared j

-- A process holds nothing any more at those of its indexes that pass a test, and their descriptors are empty. All else that is held
-- stays.
pub record LetsGo (old new : Maps) (pid : ℕ) (gone : ℕ → Bool) : Type 0 where
  pub processes : new.processes ≡ old.processes
  pub held : (q i : ℕ) → held_at new q i ≡ (if (q == pid) && gone i then None else held_at old q i)
  pub described : (q i : ℕ) → descriptor_at new q i ≡ (if (q == pid) && gone i then empty else descriptor_at old q i)
  pub lengths : (q : ℕ) → length (table_of new q) ≡ length (table_of old q)

-- a process held a segment at a shared index, outside runs and not by load, and nobody holds that index any more
pub record IsAloneLeft (old new : Maps) (pid j : ℕ) : Type 0 where
  pub hold : Held
  pub there : held_at old pid j ≡ Some hold
  pub alone : hold.reserved ≡ 0
  pub called : is_loaded hold.cause ≡ false
  pub left : some_holds new j new.processes ≡ false

-- a process held a member of a run in whose stretch an index lies, and nobody holds that index any more, nor the run's first one
pub record IsRunLeft (old new : Maps) (pid j : ℕ) : Type 0 where
  pub index : ℕ
  pub hold : Held
  pub member : IsMember old pid index hold
  pub covers : Covers hold j
  pub first : some_holds new hold.first new.processes ≡ false
  pub left : some_holds new j new.processes ≡ false

-- What is reserved once a process has let go of all that it held: none of its own indexes, and of the shared ones those that stay
-- for others, for a module or for a run that somebody holds.
pub record FreesAll (old new : Maps) (pid : ℕ) : Type 0 where
  pub own : (q i : ℕ) → IsIndex old (Private q) i → is_reserved new (Private q) i ≡ (if q == pid then false else is_reserved old (Private q) i)
  pub alone : (j : ℕ) → IsIndex old Shared j → IsAloneLeft old new pid j → is_reserved new Shared j ≡ false
  pub run : AreRuns old → (j : ℕ) → IsIndex old Shared j → IsRunLeft old new pid j → is_reserved new Shared j ≡ false
  pub fewer : (j : ℕ) → IsIndex old Shared j → is_reserved old Shared j ≡ false → is_reserved new Shared j ≡ false
  pub other : (j : ℕ) → IsIndex old Shared j → (IsAloneLeft old new pid j → ⊥) → (IsRunLeft old new pid j → ⊥) → is_reserved new Shared j ≡ is_reserved old Shared j

-- some process holds a segment
abbrev pub some_has : Maps → SegId → Bool
some_has m id = list_any (is_of id) m.held

-- a number's segment is where it was, with its bytes
pub record KeepsSegment (old new : Shelf) (k : ℕ) : Type 0 where
  pub entry : slot_at new.entries k ≡ slot_at old.entries k
  pub place : place_of new k ≡ place_of old k
  pub bytes : (pic : Pictures) (block : ℕ → List ℕ) (j : ℕ) → byte_at new pic block k j ≡ byte_at old pic block k j

-- Segments that were held, by what the maps were, and aren't any more have gone with their ranges and their blocks; all others
-- are as they were.
pub record Sheds (old : Shelf) (was : Maps) (new : Shelf) (now : Maps) : Type 0 where
  pub memory : new.memory ≡ old.memory
  pub size : new.places.size ≡ old.places.size
  pub count : length new.entries ≡ length old.entries
  pub made : new.made ≡ old.made
  pub map : all_of new.swap ≡ all_of old.swap
  pub same : (k : ℕ) → IsSome (slot_at new.entries k) → KeepsSegment old new k
  pub left : (k : ℕ) → IsSome (slot_at old.entries k) → some_has now (numbered old k) ≡ true → IsSome (slot_at new.entries k)
  pub other : (k : ℕ) → IsSome (slot_at old.entries k) → some_has was (numbered old k) ≡ false → IsSome (slot_at new.entries k)
  pub gone : (k : ℕ) → some_has was (numbered old k) ≡ true → some_has now (numbered old k) ≡ false → slot_at new.entries k ≡ None
