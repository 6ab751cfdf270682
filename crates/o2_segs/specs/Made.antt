-- A segment that a call makes.
use Rattle.std.specs.Prelude.{◌≡◌, ℕ, ◌<◌, ◌%◌, ◌==◌, ◌||◌, Bool, true, false, IsTrue, List, Option, None, nat_le, if◌then◌else◌}
use Rattle.o2_desc.specs.Bits.{has_bit}
use Rattle.o2_entries.specs.declared.Entry.{Entry}
use Rattle.o2_image.specs.ImageList.{ImageList}
use Rattle.o2_place.specs.declared.seg_id.SegId.{SegId}
use Rattle.o2_regions.specs.declared.answer.Roomed.{Roomed}
use Rattle.o2_regions.specs.declared.answer.Roomed.TheVariants.{Done, NoRoom, SwapFull, SwapFault}
use Rattle.o2_regions.specs.declared.held.Cause.TheVariants.{Called}
use Rattle.o2_regions.specs.declared.held.Held.{Held}
use Rattle.o2_regions.specs.declared.held.Region.{Region}
use Rattle.o2_regions.specs.declared.held.Region.TheVariants.{Private, Shared}
use Rattle.o2_regions.specs.Maps.{Maps}
use Rattle.o2_store.specs.Loads.{live_load}
use Rattle.o2_store.specs.Shelf.{Shelf, Adds}
use Rattle.o2_world.specs.Map.{get}
use Rattle.o2_world.specs.World.{Segment, World}
use Rattle.o2_world.specs.Changes.{Makes, with_change}
use Rattle.o2_world.specs.Known.{Known}
use Rattle.o2_world.specs.Rulings.{Ruling, allocation_at, refusal}
use Rattle.o2_stands.specs.Moves.{moved}
use Rattle.o2_stands.specs.Parts.{Parts}
use Rattle.o2_stands.specs.Stands.{Matches}
use Rattle.o2_segs.specs.Answers.{IsUnrefused}

-- a segment as its maker holds it
abbrev pub made_by_call : SegId → Held
made_by_call id = record { id = id; holds = 1; cause = Called; first = 0; reserved = 0 }

-- the region in which a new segment is held
abbrev pub region_for : (pid flags : ℕ) → Region
region_for pid flags = if flags % 4 == 0 then Private pid else Shared

-- the ruling of an allocation at an index
abbrev pub allocation_to : Known → (number size flags : ℕ) → Option ℕ → Ruling
allocation_to k n size flags to = if nat_le k.most k.count then refusal 8 else allocation_at k n size flags to

-- A store with one segment more of such a size and such flags, out of memory and not locked, of which this is so.

abbrev pub new_entry : (made size flags : ℕ) → Entry
new_entry made size flags = record { age = made; size = size; kept = 0; image = None; attr = record { flags = flags; lock = 0; clean = false; shared = has_bit flags 0 || has_bit flags 1; gone = false } }

pub record IsWithNew (s : Shelf) (size flags : ℕ) (says : Shelf → SegId → Type 0) : Type 0 where
  pub store : Shelf
  pub id : SegId
  pub adds : Adds s store id (new_entry s.made size flags)
  pub holds : says store id

-- of each store with one segment more this is so, whichever number it has
pub record AreWithNew (s : Shelf) (size flags : ℕ) (says : Shelf → SegId → Type 0) : Type 0 where
  pub each : (t : Shelf) (id : SegId) → Adds s t id (new_entry s.made size flags) → says t id

-- a call isn't done
abbrev pub IsStop : Roomed → Type 0
IsStop (Done a) = ⊥
IsStop NoRoom = Unit {0}
IsStop SwapFull = Unit {0}
IsStop SwapFault = Unit {0}

-- store and tables match a world with a new segment that is locked, where they matched it with that segment
pub record MatchesLocked (s t : Shelf) (old new : Maps) (images : ImageList) (told : Bool) (before after : ℕ → List ℕ) (id : SegId) : Type 0 where
  pub world : (p : Parts) (w : World) (segment : Segment) → p.shelf ≡ s → p.maps ≡ old → p.images ≡ images → p.block ≡ before → IsTrue told → id.age ≡ w.next_name
      → Matches p (with_change w (Makes segment)) → Matches (moved p t new after) (with_change w (Makes (record segment { lock = 1 })))

-- and the world without it, as if none had been made
pub record MatchesWithout (s t : Shelf) (old new : Maps) (images : ImageList) (told : Bool) (before after : ℕ → List ℕ) (id : SegId) : Type 0 where
  pub world : (p : Parts) (w : World) (segment : Segment) → p.shelf ≡ s → p.maps ≡ old → p.images ≡ images → p.block ≡ before → IsTrue told → id.age ≡ w.next_name
      → get w.names w.next_name ≡ None → Matches p (with_change w (Makes segment)) → Matches (moved p t new after) w

-- a call came to no error, and made a segment to be locked with which all that lives is more than the memory
pub record IsShortWithNew (s : Shelf) (size flags : ℕ) (result : Roomed) : Type 0 where
  pub unrefused : IsUnrefused result
  pub locked : has_bit flags 2 ≡ true
  pub short : IsWithNew s size flags (λ t id. t.places.size < live_load t)
