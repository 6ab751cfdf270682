-- A store and the maps of processes as the memory in which processes start.
use Rattle.std.specs.Prelude.{◌≡◌, ℕ, ◌+◌, ◌<◌, ◌≤◌, ◌&&◌, Bool, List, [], ◌∷◌, length, Option, Some, None, is_some, IsSome, option_map, nat_le, nat_lt, if◌then◌else◌, slice_get}
use Rattle.o2_image.specs.ImageList.{ImageList}
use Rattle.o2_entries.specs.declared.Entry.{Entry}
use Rattle.o2_entries.specs.Tables.{slot_at, live_numbers}
use Rattle.o2_place.specs.declared.seg_id.SegId.{SegId}
use Rattle.o2_regions.specs.declared.held.Cause.TheVariants.{Loaded}
use Rattle.o2_regions.specs.declared.held.Held.{Held as HeldThere}
use Rattle.o2_regions.specs.declared.held.Region.TheVariants.{Private, Shared}
use Rattle.o2_regions.specs.Maps.{Maps, IsProcess, held_at, is_reserved, table_of}
use Rattle.o2_store.specs.Idle.{NoneTaken}
use Rattle.o2_store.specs.Pictures.{HasPicture}
use Rattle.o2_store.specs.Shelf.{Shelf, entry, entry_of, place_of}
use Rattle.o2_segbus.specs.Settled.{IsSettled}
use Rattle.o2_swapmap.specs.Piles.{all_of}
use Rattle.o2_world.specs.World.{Segment}
use Rattle.o2_stands.specs.Parts.{Parts, held_in}
use Rattle.o2_stands.specs.Stands.{IsNamed}
use Rattle.o2_dynlink.specs.Outcome.{LinkedParts, modules_of}
use Rattle.o2_load.specs.Memory.{Memory}
use Rattle.o2_load.specs.Holds.{IsReady}
use Rattle.o2_load.specs.Progresses.{IsEmpty}
use Rattle.o2_opening.specs.declared.stored.Stored.{Stored}
use Rattle.o2_opening.specs.Libraries.{library_indexes}

-- whether a process may hold something at an index: a process of the maps its own ones from 1 on, and shared ones that are reserved
abbrev pub may_hold : Maps → ℕ → ℕ → Bool
may_hold m pid i = (nat_le 1 pid && nat_le pid m.processes) && (if nat_lt i 4096 then nat_le 1 i else is_reserved m Shared i)

abbrev pub stored_seen : Stored → Memory
stored_seen v = record {
  count = length v.ids.items;
  most = length v.store.entries;
  held = held_in v.regions;
  takes = may_hold v.regions;
  fixed = v.store.places.size ∷ all_of v.store.swap ∷ v.regions.processes ∷ [];
}

-- Under one name: a segment of the store, by its number, and one of a world, or neither. It is the world's whatever else a machine has, as blocks
-- that hold anything, and its image is one of those of the run.
pub record IsNamedAs (s : Shelf) (images : ImageList) (o : Option ℕ) (x : Option Segment) : Type 0 where
  pub named : (p : Parts) → IsNamed (record p { shelf = s; images = images }) o x
  pub picture : (k m n : ℕ) → o ≡ Some k → (entry s k).image ≡ Some (m, n) → HasPicture images m n

-- the number of a name's segment
abbrev pub key_in : List SegId → ℕ → Option ℕ
key_in ids n = option_map (λ (id : SegId). id.key) (slice_get ids n)

abbrev pub stored_names : Stored → ImageList → ℕ → Option Segment → Type 0
stored_names v images n o = IsNamedAs v.store images (key_in v.ids.items n) o

-- what is held is one of the names, once, by load
pub record IsLoaded (ids : List SegId) (h : HeldThere) : Type 0 where
  pub id : slice_get ids h.id.age ≡ Some h.id
  pub holds : h.holds ≡ 1
  pub cause : h.cause ≡ Loaded
  pub first : h.first ≡ 0
  pub reserved : h.reserved ≡ 0

-- The store has the segments of the names and no others, each under its age, from an image, and out of memory. Nothing is in swap blocks.
pub record AreStored (s : Shelf) (ids : List SegId) : Type 0 where
  pub made : s.made ≡ length ids
  pub live : length (live_numbers 0 s.entries) ≡ length ids
  pub aged : (n : ℕ) (id : SegId) → slice_get ids n ≡ Some id → id.age ≡ n
  pub there : (n : ℕ) (id : SegId) → slice_get ids n ≡ Some id → IsSome (entry_of s id)
  pub back : (k : ℕ) (e : Entry) → slot_at s.entries k ≡ Some e → slice_get ids e.age ≡ Some (record { key = k; age = e.age })
  pub out : (k : ℕ) → place_of s k ≡ None
  pub unused : NoneTaken s.swap

-- The descriptors agree with the store, each process's table has all indexes, and of its own indexes those that it holds are
-- reserved.
pub record AreMapped (s : Shelf) (m : Maps) (ids : List SegId) : Type 0 where
  pub held : (pid i : ℕ) (h : HeldThere) → held_at m pid i ≡ Some h → IsLoaded ids h
  pub settled : IsSettled s m
  pub tables : (pid : ℕ) → IsProcess m pid → length (table_of m pid) ≡ 8192
  pub own : (pid i : ℕ) → IsProcess m pid → 1 ≤ i → i < 4096 → is_reserved m (Private pid) i ≡ is_some (held_at m pid i)

-- what holds of a store and maps as long as processes start
pub record IsStarting (v : Stored) : Type 0 where
  pub stored : AreStored v.store v.ids.items
  pub mapped : AreMapped v.store v.regions v.ids.items

-- there are no names, and the indexes of the libraries' segments are reserved
pub record IsPrepared (l : LinkedParts) (v : Stored) : Type 0 where
  pub starting : IsStarting v
  pub empty : IsEmpty (stored_names v l.images) (stored_seen v)
  pub ready : IsReady (IsStarting v) (stored_seen v) [] l
  pub shared : (i : ℕ) → is_reserved v.regions Shared i ≡ (nat_le 4096 i && nat_lt i (4096 + library_indexes (modules_of l.images)))
