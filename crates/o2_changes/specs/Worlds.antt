-- What single changes of store and tables leave of the worlds that they match.
use Rattle.std.specs.Prelude.{◌≡◌, ℕ, Bool, true, false, IsTrue, List, [], ◌∷◌, Some, None, is_some, replicate}
use Rattle.std.specs.List.{list_any}
use Rattle.o2_desc.specs.Bits.{is_writable, rights_of}
use Rattle.o2_image.specs.ImageList.{ImageList}
use Rattle.o2_place.specs.declared.seg_id.SegId.{SegId}
use Rattle.o2_regions.specs.declared.held.Held.{Held as HeldThere}
use Rattle.o2_regions.specs.Maps.{Maps, region_of}
use Rattle.o2_store.specs.Shelf.{Shelf, entry}
use Rattle.o2_world.specs.Map.{get}
use Rattle.o2_world.specs.World.{Held, Process, Segment, World}
use Rattle.o2_world.specs.Holders.{is_held, kept, process_at}
use Rattle.o2_world.specs.Known.{reserves}
use Rattle.o2_world.specs.Changes.{Drops, Holds, Locks, Makes, Marks, Resizes, used, with_all, with_change}
use Rattle.o2_stands.specs.Moves.{moved}
use Rattle.o2_stands.specs.Parts.{Parts, cause_of}
use Rattle.o2_stands.specs.Stands.{Matches, number_of}

-- what a process holds by a machine, as a world has it, with the rights of an access byte
abbrev pub held_as : HeldThere → ℕ → Held
held_as h access = record { name = h.id.age; rights = rights_of access; holds = h.holds; cause = cause_of h.cause; first = h.first; reserved = h.reserved }

-- A hold of a segment alone may go from a world: each of its names is held, the index isn't reserved beside being held, and no
-- run goes with the hold.
pub record LosesOne (w : World) (pid i : ℕ) : Type 0 where
  pub named : (q : ℕ) → is_some (get w.names q) ≡ true → is_held w.processes q ≡ true
  pub free : list_any (reserves (number_of (region_of pid i)) i) w.reserved ≡ false
  pub reserved : used (with_change w (Drops pid i 1)).processes w.reserved ≡ w.reserved

-- So many holds of a member of a run may go from a world, whose index stays reserved: each of its names is held.
pub record LosesSome (w : World) (pid i : ℕ) : Type 0 where
  pub named : (q : ℕ) → is_some (get w.names q) ≡ true → is_held w.processes q ≡ true
  pub covered : list_any (reserves (number_of (region_of pid i)) i) w.reserved ≡ true

-- a world with so many holds less, and without the names that nobody holds any more
abbrev pub lost : World → (pid i count : ℕ) → World
lost w pid i count = let v = with_change w (Drops pid i count) in record v { names = kept v.processes v.names }

-- The tables match a world with a hold more, where they matched it.
pub record MatchesHold (s : Shelf) (old new : Maps) (pid i : ℕ) (h : HeldThere) (access : ℕ) : Type 0 where
  pub world : (p : Parts) (w : World) (x : Process) → p.shelf ≡ s → p.maps ≡ old → process_at w.processes pid ≡ Some x
      → (is_writable (rights_of access) ≡ true → (entry s h.id.key).attr.clean ≡ false)
      → Matches p w → Matches (record p { maps = new }) (with_change w (Holds pid i (held_as h access)))

-- store and tables match a world with a hold of a segment alone less, and without the segment where that was the last one
pub record MatchesDrop (s t : Shelf) (old new : Maps) (pid i : ℕ) : Type 0 where
  pub world : (p : Parts) (w : World) (x : Process) → p.shelf ≡ s → p.maps ≡ old → process_at w.processes pid ≡ Some x
      → LosesOne w pid i → Matches p w → Matches (record p { shelf = t; maps = new }) (with_all w (Drops pid i 1 ∷ []))

-- store and tables match a world with so many holds of a member of a run less, and without its segment where these were the last ones
pub record MatchesLoss (s t : Shelf) (old new : Maps) (pid i count : ℕ) : Type 0 where
  pub world : (p : Parts) (w : World) (x : Process) → p.shelf ≡ s → p.maps ≡ old → process_at w.processes pid ≡ Some x
      → LosesSome w pid i → Matches p w → Matches (record p { shelf = t; maps = new }) (lost w pid i count)

-- the store matches a world in which a segment is locked so often
pub record MatchesLock (s t : Shelf) (m : Maps) (id : SegId) (lock : ℕ) : Type 0 where
  pub world : (p : Parts) (w : World) → p.shelf ≡ s → p.maps ≡ m → Matches p w
      → Matches (record p { shelf = t }) (with_change w (Locks id.age lock))

-- store and tables match a world in which a segment is discarded, or is so no more
pub record MatchesMark (s t : Shelf) (old new : Maps) (id : SegId) (discarded : Bool) : Type 0 where
  pub world : (p : Parts) (w : World) → p.shelf ≡ s → p.maps ≡ old → Matches p w
      → Matches (record p { shelf = t; maps = new }) (with_change w (Marks id.age discarded))

-- store and tables match a world where segments come, go and move, where the device tells
pub record MatchesMove (s t : Shelf) (old new : Maps) (images : ImageList) (told : Bool) (before after : ℕ → List ℕ) : Type 0 where
  pub world : (p : Parts) (w : World) → p.shelf ≡ s → p.maps ≡ old → p.images ≡ images → p.block ≡ before → IsTrue told
      → Matches p w → Matches (moved p t new after) w

-- a segment of zeros that isn't locked
abbrev pub new_segment : (size flags : ℕ) → (shared : Bool) → Segment
new_segment size flags shared = record { bytes = replicate size 0; clean = false; code = false; flags = flags; lock = 0; shared = shared; discarded = false }

-- the store matches a world with one segment more
pub record MatchesMake (s t : Shelf) (m : Maps) (segment : Segment) : Type 0 where
  pub world : (p : Parts) (w : World) → p.shelf ≡ s → p.maps ≡ m → Matches p w → Matches (record p { shelf = t }) (with_change w (Makes segment))

-- store and tables match a world in which a segment has another size, where the device tells
pub record MatchesSize (s t : Shelf) (old new : Maps) (images : ImageList) (told : Bool) (before after : ℕ → List ℕ) (id : SegId) (size : ℕ) : Type 0 where
  pub world : (p : Parts) (w : World) → p.shelf ≡ s → p.maps ≡ old → p.images ≡ images → p.block ≡ before → IsTrue told
      → Matches p w → Matches (moved p t new after) (with_change w (Resizes id.age size))

-- store and tables match a world in which a segment out of memory has another size, whatever any device tells
pub record MatchesOutSize (s t : Shelf) (old new : Maps) (id : SegId) (size : ℕ) : Type 0 where
  pub world : (p : Parts) (w : World) → p.shelf ≡ s → p.maps ≡ old → Matches p w
      → Matches (record p { shelf = t; maps = new }) (with_change w (Resizes id.age size))

-- the store matches a world again without the segment that was made last, as if none had been made
pub record MatchesUnmake (s t : Shelf) (m : Maps) (id : SegId) : Type 0 where
  pub world : (p : Parts) (w : World) (segment : Segment) → p.shelf ≡ s → p.maps ≡ m → id.age ≡ w.next_name → get w.names w.next_name ≡ None
      → Matches p (with_change w (Makes segment)) → Matches (record p { shelf = t }) w
