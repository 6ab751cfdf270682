-- What DosReallocHuge comes to, by what a process holds of a run.
use Rattle.std.specs.Prelude.{◌≡◌, ℕ, ◌+◌, ◌-◌, ◌==◌, ◌&&◌, ◌||◌, Bool, true, false, IsTrue, List, if◌then◌else◌, min, nat_le, nat_lt, length, [], ◌∷◌, ◌++◌, is_some, Option, Some, None}
use Rattle.o2_desc.specs.Bits.{has_bit}
use Rattle.o2_entries.specs.Tables.{live_numbers, slot_at}
use Rattle.o2_image.specs.ImageList.{ImageList}
use Rattle.o2_isa.specs.declared.cpu.Cpu.{Cpu}
use Rattle.o2_regions.specs.declared.held.Held.{Held}
use Rattle.o2_regions.specs.declared.answer.Roomed.{Roomed}
use Rattle.o2_regions.specs.declared.answer.Roomed.TheVariants.{Done, NoRoom, SwapFull, SwapFault}
use Rattle.o2_regions.specs.Maps.{Maps, end_of, held_at, holds_of, region_of}
use Rattle.o2_store.specs.Shelf.{Shelf, entry}
use Rattle.o2_stands.specs.Moves.{moved}
use Rattle.o2_stands.specs.Parts.{Parts}
use Rattle.o2_stands.specs.Stands.{Matches}
use Rattle.o2_world.specs.Changes.{Change, with_all, with_changes}
use Rattle.o2_world.specs.Holders.{process_at}
use Rattle.o2_world.specs.HugeRulings.{bytes_of, new_members, segments_of, sizes_of}
use Rattle.o2_world.specs.Rulings.{indexes}
use Rattle.o2_world.specs.SharedRulings.{shared_from}
use Rattle.o2_world.specs.World.{Process, World}
use Rattle.o2_huge.specs.Cuts.{MayLose}
use Rattle.o2_huge.specs.Growth.{bytes_there, is_cut_used, is_of_run, last_kept, last_size, lost_in, shares_in, size_there, sized_there}

-- so many indexes of what is held lie in the region of an index
abbrev pub run_count : (index : ℕ) → Held → ℕ
run_count i h = min h.reserved (end_of (region_of 0 i) - i)

abbrev pub is_member : (first : ℕ) → Option Held → Bool
is_member first None = false
is_member first (Some h) = is_of_run first h

abbrev pub is_member_in : Maps → (pid first index : ℕ) → Bool
is_member_in m pid first i = is_member first (held_at m pid i)

-- the error of new sizes, by the run and its number of members, where it isn't that too many segments would live
abbrev pub run_fault : Shelf → Maps → (pid first count members segs part : ℕ) → Cpu → Option ℕ
run_fault s m pid first count n segs part c =
    let wanted = segments_of segs part in
    if wanted == 0 then Some 87
    else (if nat_lt count wanted then Some 8
    else (if (nat_le shared_from first && nat_lt (bytes_of segs part) (bytes_there n (size_there s (held_at m pid (first + (n - 1)))))) || is_cut_used c (first + wanted) (n - wanted) then Some 5
    else None))

-- store and tables match a world with these changes, where they matched it without them, and where the device tells
pub record MatchesSized (s t : Shelf) (old new : Maps) (images : ImageList) (told : Bool) (before after : ℕ → List ℕ) (cs : List Change) : Type 0 where
  pub world : (p : Parts) (w : World) → p.shelf ≡ s → p.maps ≡ old → p.images ≡ images → p.block ≡ before → IsTrue told
      → Matches p w → Matches (moved p t new after) (with_changes w cs)

-- the change of the last member that stays
abbrev pub sized_last : Shelf → Maps → (pid first members segs part : ℕ) → List Change
sized_last s m pid first n segs part = sized_there s (last_size n segs part) (held_at m pid (last_kept first n segs part))

abbrev pub flags_there : Shelf → Option Held → ℕ
flags_there s None = 0
flags_there s (Some h) = (entry s h.id.key).attr.flags

-- the changes of members that come or go behind it
abbrev pub changed_in : Shelf → Maps → (pid first count members segs part : ℕ) → List Change
changed_in s m pid first count n segs part =
    if nat_lt n (segments_of segs part)
    then new_members s.made first count (flags_there s (held_at m pid first)) ((pid, holds_of (held_at m pid first)) ∷ shares_in m pid first)
    (indexes (first + n) (segments_of segs part - n)) (sizes_of (segs - n) part)
    else lost_in m pid (indexes (first + segments_of segs part) (n - segments_of segs part))

-- store and tables match a world with these changes, which may lose members, where the run isn't discardable
pub record MatchesChanged (s t : Shelf) (m n : Maps) (pid first count members segs part : ℕ) : Type 0 where
  pub world : (p : Parts) (w : World) (x : Process) → p.shelf ≡ s → p.maps ≡ m → process_at w.processes pid ≡ Some x
      → has_bit (flags_there s (held_at m pid first)) 2 ≡ false → MayLose w → Matches p w
      → Matches (record p { shelf = t; maps = n }) (with_all w (changed_in s m pid first count members segs part))

abbrev pub is_done : Roomed → Bool
is_done (Done a) = true
is_done NoRoom = false
is_done SwapFull = false
is_done SwapFault = false

-- with the change of the size before them, or with none at a stop
pub record MatchesResized (s t : Shelf) (old new : Maps) (images : ImageList) (told : Bool) (before after : ℕ → List ℕ) (pid first count members segs part : ℕ) (r : Roomed) : Type 0 where
  pub world : (p : Parts) (w : World) (x : Process) → p.shelf ≡ s → p.maps ≡ old → p.images ≡ images → p.block ≡ before → IsTrue told → process_at w.processes pid ≡ Some x
      → has_bit (flags_there s (held_at old pid first)) 2 ≡ false → MayLose w → Matches p w
      → Matches (moved p t new after)
      (with_all w (if is_done r then sized_last s old pid first members segs part ++ changed_in s old pid first count members segs part else []))

-- as many segments live, each under its number, with its flags, and as many were made
pub record KeepsRest (s t : Shelf) : Type 0 where
  pub size : t.places.size ≡ s.places.size
  pub most : length t.entries ≡ length s.entries
  pub made : t.made ≡ s.made
  pub live : length (live_numbers 0 t.entries) ≡ length (live_numbers 0 s.entries)
  pub alive : (k : ℕ) → is_some (slot_at t.entries k) ≡ is_some (slot_at s.entries k)
  pub flags : (k : ℕ) → (entry t k).attr.flags ≡ (entry s k).attr.flags
