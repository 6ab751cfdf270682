-- A machine over a store stands for a world: look-up by look-up, index by index and name by name. Its texts are left to the world.
use Rattle.std.specs.Prelude.{◌≡◌, ◌⊎◌, ℕ, ◌<◌, ◌≤◌, ◌&&◌, ◌||◌, ◌==◌, Bool, true, false, not, List, [], ◌∷◌, length, if◌then◌else◌, min, nat_le, nat_lt, Option, Some, None, is_some, option_map, slice_index_or}
use Rattle.std.specs.List.{list_any}
use Rattle.o2_place.specs.Layout.{len_of, over}
use Rattle.o2_regions.specs.declared.held.Region.{Region}
use Rattle.o2_regions.specs.declared.held.Region.TheVariants.{Private, Shared}
use Rattle.o2_regions.specs.Kept.{AreKept}
use Rattle.o2_regions.specs.Lives.{lives}
use Rattle.o2_regions.specs.Maps.{Maps, IsRegion, end_of, first_of, is_taken, region_of}
use Rattle.o2_swapmap.specs.Piles.{all_of}
use Rattle.o2_store.specs.Pictures.{picture, HasPicture}
use Rattle.o2_store.specs.Shelf.{Shelf, IsShelf, AreClean, HasAll, entry, place_of}
use Rattle.o2_segbus.specs.Bus.{AreInside}
use Rattle.o2_segbus.specs.Guards.{AreAged, AreGuarded}
use Rattle.o2_segbus.specs.Seen.{AreNamed, key_of}
use Rattle.o2_segbus.specs.Settled.{IsSettled}
use Rattle.o2_service.specs.Told.{IsHeldWell}
use Rattle.o2_world.specs.Map.{Map, get}
use Rattle.o2_world.specs.World.{Cause, Held, Process, Reserve, Segment, Setting, World, ByLoad, ByCall, ByAlias}
use Rattle.o2_world.specs.Holders.{is_held, process_at}
use Rattle.o2_world.specs.Changes.{is_used}
use Rattle.o2_world.specs.Known.{held_at, holds_index, is_for_the_run, lives_at, reserves}
use Rattle.o2_world.specs.Rulings.{is_in_run}
use Rattle.o2_stands.specs.Parts.{Parts, byte_in, goes_on, held_in, running_of}
use Rattle.o2_stands.specs.Runs.{HasFullMembers, HasRunFlags, HasRuns}

-- what is true of every store and of all maps
pub record AreLawful (s : Shelf) (m : Maps) : Type 0 where
  pub shelf : IsShelf s
  pub inside : AreInside s
  -- what is in memory takes no more than there is
  pub room : over (λ k. len_of (place_of s k)) (length s.entries) ≤ s.places.size
  pub maps : AreKept m

-- What the calls of the store, of the service and of the bus ask for, beside one process's own.
pub record IsReady (p : Parts) : Type 0 where
  -- no two live segments have one age, and what is held is live, found by its age, and has an entry in its process's table
  pub aged : AreAged p.shelf
  pub named : AreNamed p.shelf p.maps
  pub held : IsHeldWell p.shelf p.maps
  -- the descriptors agree with the store
  pub settled : IsSettled p.shelf p.maps
  -- what is held as data that can be written isn't clean, and clean segments have the bytes of their images, which are there
  pub guarded : AreGuarded p.shelf p.maps
  pub clean : AreClean p.shelf (picture p.images)
  pub pictures : HasAll (HasPicture p.images) p.shelf
  pub device : all_of p.shelf.swap ≤ p.device

-- a number's segment is that of a world: its size, its bytes wherever they lie, and its attributes
pub record IsSegment (p : Parts) (k : ℕ) (s : Segment) : Type 0 where
  pub size : length s.bytes ≡ (entry p.shelf k).size
  pub bytes : (j : ℕ) → j < (entry p.shelf k).size → slice_index_or s.bytes j 0 ≡ byte_in p k j
  pub clean : s.clean ≡ (entry p.shelf k).attr.clean
  pub flags : s.flags ≡ (entry p.shelf k).attr.flags
  pub lock : s.lock ≡ (entry p.shelf k).attr.lock
  pub shared : s.shared ≡ (entry p.shelf k).attr.shared
  pub discarded : s.discarded ≡ (entry p.shelf k).attr.gone

-- under one name: a segment of the world and one of the store, or neither
abbrev pub IsNamed : Parts → Option ℕ → Option Segment → Type 0
IsNamed p (Some k) (Some s) = IsSegment p k s
IsNamed p None None = Unit {0}
IsNamed p (Some k) None = ⊥
IsNamed p None (Some s) = ⊥

-- the number of a region's process, and 0 for the shared one
abbrev pub number_of : Region → ℕ
number_of (Private pid) = pid
number_of Shared = 0

-- an index of a region, whose process the maps have
pub record IsIndex (m : Maps) (g : Region) (i : ℕ) : Type 0 where
  pub region : IsRegion m g
  pub from : first_of g ≤ i
  pub to : i < end_of g

-- an index of a process's region, or with 0 of the shared one, is held or reserved
abbrev pub taken_by : List Process → List Reserve → ℕ → ℕ → Bool
taken_by ps reserved region i = (if region == 0 then holds_index ps i else is_some (held_at ps region i)) || list_any (reserves region i) reserved

-- no two pairs have one name
abbrev pub AreOnce : Map Segment → Type 0
AreOnce [] = Unit {0}
AreOnce (e ∷ es) = (get es e.0 ≡ None) × AreOnce es

-- the number of the region in which a process holds an index: its own one's, and 0 for the shared one
abbrev pub region_at : (number index : ℕ) → ℕ
region_at n i = number_of (region_of n i)

-- it begins in its region
abbrev pub is_placed : Reserve → Bool
is_placed r = if r.region == 0 then nat_le 4096 r.first else nat_lt r.first 4096

-- it is of shared indexes and stays for the whole run, or is of a huge allocation that is held
abbrev pub stays_or_is_held : List Process → Reserve → Bool
stays_or_is_held ps r = ((r.region == 0) && r.stays) || (not r.stays && (is_placed r && is_used ps r))

abbrev pub AllStay : List Process → List Reserve → Type 0
AllStay ps [] = Unit {0}
AllStay ps (r ∷ rs) = (stays_or_is_held ps r ≡ true) × AllStay ps rs

-- the indexes of a huge allocation: so many of a region from the first on
abbrev pub is_stretch : (region first count : ℕ) → Reserve → Bool
is_stretch region first count r = not r.stays && ((r.region == region) && ((r.first == first) && (r.count == count)))

-- they have no index in common, or both stay
abbrev pub AreDisjoint : Reserve → Reserve → Type 0
AreDisjoint r q = ((r.stays && q.stays) ≡ true) ⊎ ((i : ℕ) → reserves r.region i r ≡ true → reserves r.region i q ≡ false)

abbrev pub IsDisjointFrom : Reserve → List Reserve → Type 0
IsDisjointFrom r [] = Unit {0}
IsDisjointFrom r (q ∷ qs) = AreDisjoint r q × IsDisjointFrom r qs

abbrev pub AllDisjoint : List Reserve → Type 0
AllDisjoint [] = Unit {0}
AllDisjoint (r ∷ rs) = IsDisjointFrom r rs × AllDisjoint rs

abbrev pub is_by_load : Cause → Bool
is_by_load ByLoad = true
is_by_load ByCall = false
is_by_load ByAlias = false

-- What the machine goes by that isn't its own: each name stands once and is held by somebody, who has ended holds nothing, and
-- what is reserved stays for the whole run or is of a huge allocation that is held. A shared index that is held by load is
-- reserved for the whole run. What is held in a run has a stretch that is reserved for it, and what is held otherwise is at an
-- index that isn't reserved. Nothing is reserved twice. What is held in runs has the form of runs, and a member before another one has 65,536 bytes.
pub record IsTidy (ps : List Process) (names : Map Segment) (reserved : List Reserve) : Type 0 where
  pub once : AreOnce names
  pub used : (n : ℕ) → is_some (get names n) ≡ true → is_held ps n ≡ true
  pub ended : (n i : ℕ) → lives_at (process_at ps n) ≡ false → held_at ps n i ≡ None
  pub stay : AllStay ps reserved
  pub shared : (n i : ℕ) (h : Held) → 4096 ≤ i → held_at ps n i ≡ Some h → is_by_load h.cause ≡ true → list_any (is_for_the_run i) reserved ≡ true
  pub run : (n i : ℕ) (h : Held) → held_at ps n i ≡ Some h → is_in_run h ≡ true → list_any (is_stretch (region_at n i) h.first h.reserved) reserved ≡ true
  pub free : (n i : ℕ) (h : Held) → held_at ps n i ≡ Some h → is_in_run h ≡ false → (4096 ≤ i → is_by_load h.cause ≡ false)
      → list_any (reserves (region_at n i) i) reserved ≡ false
  pub disjoint : AllDisjoint reserved
  pub runs : HasRuns (held_at ps)
  pub flags : HasRunFlags (held_at ps) names
  pub full : HasFullMembers (held_at ps) names

-- The machine matches the processes, names, next name and reserved indexes of a world by look-ups: all of what it stands for, but
-- for what is true of the world alone. Between the changes of a call no more than that holds.
pub record MatchesIn (p : Parts) (ps : List Process) (names : Map Segment) (next : ℕ) (reserved : List Reserve) : Type 0 where
  pub ready : IsReady p
  -- a name is the age of its segment
  pub segments : (n : ℕ) → IsNamed p (key_of p.shelf n) (get names n)
  pub made : next ≡ p.shelf.made
  pub processes : (n : ℕ) → option_map running_of (process_at ps n) ≡ p.running n
  pub held : (n i : ℕ) → held_at ps n i ≡ held_in p.maps n i
  pub taken : (g : Region) (i : ℕ) → IsIndex p.maps g i → taken_by ps reserved (number_of g) i ≡ is_taken p.maps g i

abbrev pub Matches : Parts → World → Type 0
Matches p w = MatchesIn p w.processes w.names w.next_name w.reserved

-- The machine stands for them: it matches them, and the world is tidy.
pub record StandsIn (p : Parts) (ps : List Process) (names : Map Segment) (next : ℕ) (reserved : List Reserve) : Type 0 where
  pub ready : IsReady p
  -- a name is the age of its segment
  pub segments : (n : ℕ) → IsNamed p (key_of p.shelf n) (get names n)
  pub made : next ≡ p.shelf.made
  pub processes : (n : ℕ) → option_map running_of (process_at ps n) ≡ p.running n
  pub held : (n i : ℕ) → held_at ps n i ≡ held_in p.maps n i
  pub taken : (g : Region) (i : ℕ) → IsIndex p.maps g i → taken_by ps reserved (number_of g) i ≡ is_taken p.maps g i
  pub tidy : IsTidy ps names reserved

-- The machine stands for a world, whatever its texts and its input are.
abbrev pub Stands : Parts → World → Type 0
Stands p w = StandsIn p w.processes w.names w.next_name w.reserved

-- memory, names and blocks are as many as the setting says, where the device has so many blocks
pub record IsSetTo (p : Parts) (s : Setting) : Type 0 where
  pub memory : p.shelf.places.size ≡ s.memory
  pub segments : length p.shelf.entries ≡ s.segments
  pub blocks : all_of p.shelf.swap ≡ min s.swap p.device

-- the numbers that are marked live are those of the processes that go on
abbrev pub AreMarked : List Bool → Parts → Type 0
AreMarked marks p = (n : ℕ) → lives marks n ≡ goes_on (p.running n)
