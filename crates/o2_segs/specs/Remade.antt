-- A discarded segment that is made anew.
use Rattle.std.specs.Prelude.{◌≡◌, ◌≢◌, ℕ, Bool, ◌&&◌, ◌||◌, List, length, None, IsSome, is_some, true, false}
use Rattle.o2_entries.specs.Tables.{slot_at}
use Rattle.o2_place.specs.declared.seg_id.SegId.{SegId}
use Rattle.o2_regions.specs.Maps.{Maps}
use Rattle.o2_store.specs.Shelf.{Shelf, SameEntry, entry, place_of}
use Rattle.o2_store.specs.Sizes.{stays}
use Rattle.o2_world.specs.Changes.{Marks, Resizes, with_change}
use Rattle.o2_world.specs.World.{World}
use Rattle.o2_stands.specs.Parts.{Parts}
use Rattle.o2_stands.specs.Stands.{Matches}

-- a segment is discarded no more, and has a size; it is out of memory, and none of its bytes is kept
pub record IsRemade (s t : Shelf) (key size : ℕ) : Type 0 where
  pub count : length t.entries ≡ length s.entries
  pub places : t.places ≡ s.places
  pub live : IsSome (slot_at t.entries key)
  pub age : (entry t key).age ≡ (entry s key).age
  pub sized : (entry t key).size ≡ size
  pub attr : (entry t key).attr ≡ record (entry s key).attr { gone = false }
  pub image : (entry t key).image ≡ None
  pub kept : (entry t key).kept ≡ 0
  pub others : (k : ℕ) → k ≢ key → SameEntry (slot_at s.entries k) (slot_at t.entries k)

-- store and tables match a world in which a discarded segment is so no more, at a size
pub record MatchesBegun (s t : Shelf) (old new : Maps) (id : SegId) (size : ℕ) : Type 0 where
  pub world : (p : Parts) (w : World) → p.shelf ≡ s → p.maps ≡ old → Matches p w
      → Matches (record p { shelf = t; maps = new }) (with_change (with_change w (Marks id.age false)) (Resizes id.age size))

-- and one in which a segment is discarded, at a size
pub record MatchesUndone (s t : Shelf) (old new : Maps) (id : SegId) (size : ℕ) : Type 0 where
  pub world : (p : Parts) (w : World) → p.shelf ≡ s → p.maps ≡ old → Matches p w
      → Matches (record p { shelf = t; maps = new }) (with_change (with_change w (Resizes id.age size)) (Marks id.age true))

-- A new size wants room in memory: the segment is there and is to stay there, or it was discarded and comes there.
abbrev pub wants_room : Shelf → ℕ → List SegId → Bool
wants_room s key keep = (entry s key).attr.gone || (is_some (place_of s key) && stays s key keep)
