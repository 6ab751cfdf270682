-- A segment gets another size.
use Rattle.std.specs.Prelude.{◌≡◌, ◌≢◌, ℕ, ◌+◌, ◌<◌, ◌≤◌, List, length, Option, Some, None, is_some, option_map, Bool, ◌||◌, ◌==◌, if◌then◌else◌, nat_lt, slice_index_or, IsTrue}
use Rattle.o2_entries.specs.declared.Entry.{Entry}
use Rattle.o2_entries.specs.Tables.{slot_at}
use Rattle.o2_place.specs.declared.seg_id.SegId.{SegId}
use Rattle.o2_place.specs.Layout.{Layout, find_in, over, used}
use Rattle.o2_compact.specs.Parts.{GrowsInPlace}
use Rattle.o2_store.specs.Shelf.{Shelf, Pictures, SameEntry, entry, entry_or, byte_at, rounded}
use Rattle.o2_store.specs.Needs.{named_in, wanted}

-- what stays of a segment that gets a size
pub record GetsSize (old new : Option Entry) (size : ℕ) : Type 0 where
  pub live : is_some new ≡ is_some old
  pub age : (entry_or new).age ≡ (entry_or old).age
  pub sized : (entry_or new).size ≡ size
  pub attr : (entry_or new).attr ≡ (entry_or old).attr
  pub image : (p : ℕ × ℕ) → (entry_or new).image ≡ Some p → (entry_or old).image ≡ Some p

-- a number's segment gets a size: its first bytes stay, grown ones are zero, and all other segments stay as they are
pub record Resizes (told : Bool) (pic : Pictures) (old : Shelf) (before : ℕ → List ℕ) (new : Shelf) (after : ℕ → List ℕ) (key size : ℕ) : Type 0 where
  pub others : IsTrue told → (k j : ℕ) → k ≢ key → j < (entry old k).size → byte_at new pic after k j ≡ byte_at old pic before k j
  pub front : IsTrue told → (j : ℕ) → j < (entry old key).size → j < size → byte_at new pic after key j ≡ byte_at old pic before key j
  pub zeros : (j : ℕ) → (entry old key).size ≤ j → j < size → byte_at new pic after key j ≡ 0
  pub same : (k : ℕ) → k ≢ key → SameEntry (slot_at old.entries k) (slot_at new.entries k)
  pub here : GetsSize (slot_at old.entries key) (slot_at new.entries key) size
  pub count : length new.entries ≡ length old.entries
  pub made : new.made ≡ old.made
  pub whole : new.places.size ≡ old.places.size

-- where an id's range begins
abbrev pub start_in : Layout → ℕ → Option ℕ
start_in p k = option_map (λ r. r.0) (find_in p.ranges k)

-- each range begins where it did
abbrev pub KeepsStarts : Layout → Layout → Type 0
KeepsStarts p q = (k : ℕ) → start_in q k ≡ start_in p k

-- a segment in memory that gets a size for which there is room where it lies keeps its address, and no other one moves or leaves
abbrev pub StaysPut : (old new : Shelf) → (key size : ℕ) → Type 0
StaysPut old new key size = used old.places.ranges + rounded size ≤ old.places.size + rounded (entry old key).size → GrowsInPlace old.places new.places key (rounded size)

-- a range goes to another place with its bytes
abbrev pub Goes : List ℕ → ℕ → ℕ → List ℕ → ℕ → Type 0
Goes m at len n to = (j : ℕ) → j < len → slice_index_or n (to + j) 0 ≡ slice_index_or m (at + j) 0

-- an id's range gets a length, and its first bytes stay; all other ranges keep theirs
pub record Relengths (m : List ℕ) (p : Layout) (n : List ℕ) (q : Layout) (key len : ℕ) : Type 0 where
  pub none : (k : ℕ) → find_in p.ranges k ≡ None → find_in q.ranges k ≡ None
  pub others : (k at l : ℕ) → k ≢ key → find_in p.ranges k ≡ Some (at, l) → (to : ℕ) × (find_in q.ranges k ≡ Some (to, l)) × Goes m at l n to
  pub here : (at l : ℕ) → find_in p.ranges key ≡ Some (at, l)
      → (to : ℕ) × (find_in q.ranges key ≡ Some (to, len)) × ((j : ℕ) → j < l → j < len → slice_index_or n (to + j) 0 ≡ slice_index_or m (at + j) 0)
  pub whole : length n ≡ length m
  pub size : q.size ≡ p.size
  pub most : q.most ≡ p.most

-- an id's range gets the length for a new size; its bytes below both sizes stay, and those from the old size on are zero
pub record Refits (m : List ℕ) (p : Layout) (n : List ℕ) (q : Layout) (key old new : ℕ) : Type 0 where
  pub none : (k : ℕ) → find_in p.ranges k ≡ None → find_in q.ranges k ≡ None
  pub others : (k at l : ℕ) → k ≢ key → find_in p.ranges k ≡ Some (at, l) → (to : ℕ) × (find_in q.ranges k ≡ Some (to, l)) × Goes m at l n to
  pub here : (at l : ℕ) → find_in p.ranges key ≡ Some (at, l)
      → (to : ℕ) × (find_in q.ranges key ≡ Some (to, rounded new)) × ((j : ℕ) → j < old → j < new → slice_index_or n (to + j) 0 ≡ slice_index_or m (at + j) 0) × ((j : ℕ) → old ≤ j → j < new → slice_index_or n (to + j) 0 ≡ 0)
  pub whole : length n ≡ length m
  pub size : q.size ≡ p.size
  pub most : q.most ≡ p.most

-- whether a segment may not leave the memory: it is locked or named in keep
abbrev pub stays : Shelf → ℕ → List SegId → Bool
stays s key keep = nat_lt 0 (entry s key).attr.lock || named_in s.entries keep key

-- what a segment takes that is locked or named in keep, and what id takes at a size
abbrev pub wanted_at : Shelf → ℕ → List SegId → ℕ → ℕ → ℕ
wanted_at s key keep size k = if k == key then rounded size else wanted s key keep k

-- the rounded sizes of keep, of the locked ones and of id at a size together, each once
abbrev pub all_wanted_at : Shelf → ℕ → List SegId → ℕ → ℕ
all_wanted_at s key keep size = over (wanted_at s key keep size) (length s.entries)
