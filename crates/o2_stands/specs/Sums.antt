-- What a step needs of the memory, by names and by numbers of segments.
use Rattle.std.specs.Prelude.{◌≡◌, ◌≤◌, ℕ, Bool, List, true, false, ◌||◌, nat_lt, max, if◌then◌else◌, Some, None, IsSome}
use Rattle.o2_entries.specs.Tables.{slot_at}
use Rattle.o2_place.specs.declared.seg_id.SegId.{SegId}
use Rattle.o2_store.specs.Shelf.{Shelf, entry, place_of}
use Rattle.o2_segbus.specs.Seen.{key_of}
use Rattle.o2_service.specs.Needs.{AreLive, needs, size_in}
use Rattle.o2_world.specs.Map.{Map, get}
use Rattle.o2_world.specs.World.{Segment}
use Rattle.o2_run.specs.Room.{is_in, is_locked, needs as takes, size_of}

-- the names behind a step are those before it, some of which may have gone
pub record IsWithin (old new : Map Segment) : Type 0 where
  pub none : (n : ℕ) → get old n ≡ None → get new n ≡ None

-- A list of live segments with the sizes that they get says what a list of names does, of the names before a step and behind
-- it: the same are needed, none of them discarded, a lock that is new is that of one that is needed, and the larger of both sizes is
-- the same.
pub record SaysNeed (s : Shelf) (old new : Map Segment) (names : List ℕ) (need : List (SegId × ℕ)) : Type 0 where
  pub live : AreLive s need
  pub within : IsWithin old new
  pub needed : (n k : ℕ) → key_of s n ≡ Some k → is_in n names ≡ needs need k
  pub whole : (k : ℕ) → needs need k ≡ true → (entry s k).attr.gone ≡ false
  pub locks : (n k : ℕ) → key_of s n ≡ Some k → is_locked (get new n) ≡ true → (nat_lt 0 (entry s k).attr.lock || needs need k) ≡ true
  pub sizes : (n k : ℕ) → key_of s n ≡ Some k → max (entry s k).size (size_of (get new n)) ≡ max (entry s k).size (size_in need k)

-- no name is larger behind a step than before
pub record NoneGrows (s : Shelf) (old new : Map Segment) : Type 0 where
  pub within : IsWithin old new
  pub sizes : (n k : ℕ) → key_of s n ≡ Some k → size_of (get new n) ≤ (entry s k).size

-- Each segment of a list is live, isn't discarded, and is that of a name in a list of names, with a size that is at most the larger of the name's
-- before a step and behind it.
pub record IsAmong (s : Shelf) (new : Map Segment) (names : List ℕ) (need : List (SegId × ℕ)) : Type 0 where
  pub live : AreLive s need
  pub named : (n k : ℕ) → key_of s n ≡ Some k → needs need k ≡ true → is_in n names ≡ true
  pub whole : (k : ℕ) → needs need k ≡ true → (entry s k).attr.gone ≡ false
  pub sizes : (n k : ℕ) → key_of s n ≡ Some k → needs need k ≡ true → size_in need k ≤ max (entry s k).size (size_of (get new n))

-- Each name of a list, and each that is locked behind a step, is in memory; none is larger behind the step than before.
pub record AreAllHere (s : Shelf) (old new : Map Segment) (names : List ℕ) : Type 0 where
  pub grows : NoneGrows s old new
  pub here : (n k : ℕ) → key_of s n ≡ Some k → (is_in n names || is_locked (get new n)) ≡ true → IsSome (place_of s k)

-- what a name takes of the room of a step, of which one that is discarded takes nothing before: it counts where the step needs it, or where it is locked before the step or behind it
abbrev pub counts : Map Segment → Map Segment → List ℕ → ℕ → Bool
counts old new names n = is_in n names || (is_locked (get old n) || is_locked (get new n))

abbrev pub part_of : Map Segment → Map Segment → List ℕ → ℕ → ℕ
part_of old new names n = if counts old new names n then takes old new n else 0

-- No name takes more than the number of its segment weighs.
pub record AreAtMost (s : Shelf) (old new : Map Segment) (names : List ℕ) (weight : ℕ → ℕ) : Type 0 where
  pub within : IsWithin old new
  pub each : (n k : ℕ) → key_of s n ≡ Some k → part_of old new names n ≤ weight k

-- No number weighs more than the name of its segment takes, and one without a segment weighs nothing.
pub record AreAtLeast (s : Shelf) (old new : Map Segment) (names : List ℕ) (weight : ℕ → ℕ) : Type 0 where
  pub none : (k : ℕ) → slot_at s.entries k ≡ None → weight k ≡ 0
  pub each : (n k : ℕ) → key_of s n ≡ Some k → weight k ≤ part_of old new names n
