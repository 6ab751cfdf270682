-- Segments in a memory and out of it.
use Rattle.std.specs.Prelude.{◌≡◌, ◌≢◌, ◌⊎◌, ℕ, ◌+◌, ◌-◌, ◌*◌, ◌/◌, ◌%◌, ◌<◌, ◌≤◌, ◌^◌, List, length, Option, Some, None, is_some, IsSome, Bool, true, false, ◌&&◌, ◌==◌}
use Rattle.std.specs.Prelude.{if◌then◌else◌, nat_lt, slice_index_or, slice_set, IsTrue, slice_get, []}
use Rattle.o2_entries.specs.declared.Attr.{Attr}
use Rattle.o2_entries.specs.declared.Entry.{Entry}
use Rattle.o2_entries.specs.Tables.{slot_at}
use Rattle.o2_store.specs.declared.brought.Place.{Place}
use Rattle.o2_store.specs.declared.brought.Place.TheVariants as shown
use Rattle.o2_place.specs.declared.seg_id.SegId.{SegId}
use Rattle.o2_place.specs.Layout.{Layout, find_in, over, used}
use Rattle.o2_place.specs.Marks.{Turns, mark_of}
use Rattle.o2_swapmap.specs.Piles.{Blocks, blocks_of, free}

-- the memory and where things lie in it, the clock, who has which swap blocks, the segments by number, how many were ever made,
-- and the numbers that a call keeps in memory
pub record Shelf : Type 0 where
  pub memory : List ℕ
  pub places : Layout
  pub turns : Turns
  pub swap : Blocks
  pub entries : List (Option Entry)
  pub made : ℕ
  pub keys : List ℕ

abbrev pub no_entry : Entry
no_entry = record { age = 0; size = 0; kept = 0; image = None; attr = record { flags = 0; lock = 0; clean = false; shared = false; gone = false } }

abbrev pub entry_or : Option Entry → Entry
entry_or None = no_entry
entry_or (Some e) = e

-- what a number has, and an entry of size 0 where it has none
abbrev pub entry : Shelf → ℕ → Entry
entry s k = entry_or (slot_at s.entries k)

-- the entry, if it has this age
abbrev pub aged : ℕ → Option Entry → Option Entry
aged age None = None
aged age (Some e) = if e.age == age then Some e else None

-- the entry of a segment, and none where the segment is stale
abbrev pub entry_of : Shelf → SegId → Option Entry
entry_of s id = aged id.age (slot_at s.entries id.key)

-- a size up to a multiple of 16
abbrev pub rounded : ℕ → ℕ
rounded n = 16 * ((n + 15) / 16)

-- how many blocks a size takes
abbrev pub blocks_for : ℕ → ℕ
blocks_for n = (n + 511) / 512

-- where a segment is in memory
abbrev pub place_of : Shelf → ℕ → Option (ℕ × ℕ)
place_of s k = find_in s.places.ranges k

-- the j-th byte of an owner's blocks in order
abbrev pub stored_byte : Blocks → (ℕ → List ℕ) → ℕ → ℕ → ℕ
stored_byte m block k j = slice_index_or (block (slice_index_or (blocks_of m k) (j / 512) 0)) (j % 512) 0

-- the block isn't one of the owner's
abbrev pub IsOther : Blocks → ℕ → ℕ → Type 0
IsOther m k b = (i : ℕ) → i < length (blocks_of m k) → slice_index_or (blocks_of m k) i 0 ≢ b

-- the bytes of images, by module, segment and place
abbrev pub Pictures : Type 0
Pictures = ℕ → ℕ → ℕ → ℕ

-- a byte of an image or of swap blocks
abbrev pub source_byte : Option (ℕ × ℕ) → Pictures → Blocks → (ℕ → List ℕ) → ℕ → ℕ → ℕ
source_byte None pic m block k j = stored_byte m block k j
source_byte (Some p) pic m block k j = pic p.0 p.1 j

-- the j-th byte of a segment that is out of memory: of its image, or of its blocks in order, and zero from the kept length on
abbrev pub out_byte : Shelf → Pictures → (ℕ → List ℕ) → ℕ → ℕ → ℕ
out_byte s pic block k j = if nat_lt j (entry s k).kept then source_byte (entry s k).image pic s.swap block k j else 0

-- the same, wherever it lies
abbrev pub byte_in : List ℕ → Option (ℕ × ℕ) → ℕ → ℕ → ℕ
byte_in memory None out j = out
byte_in memory (Some r) out j = slice_index_or memory (r.0 + j) 0

-- the j-th byte of a segment
abbrev pub byte_at : Shelf → Pictures → (ℕ → List ℕ) → ℕ → ℕ → ℕ
byte_at s pic block k j = byte_in s.memory (place_of s k) (out_byte s pic block k j) j

-- what stays of a segment
pub record SameEntry (old new : Option Entry) : Type 0 where
  pub live : is_some new ≡ is_some old
  pub age : (entry_or new).age ≡ (entry_or old).age
  pub size : (entry_or new).size ≡ (entry_or old).size
  pub attr : (entry_or new).attr ≡ (entry_or old).attr
  -- none comes from an image that didn't
  pub image : (p : ℕ × ℕ) → (entry_or new).image ≡ Some p → (entry_or old).image ≡ Some p

-- the tables stay: each segment keeps its age, its size and its attributes, and the map its number of blocks
pub record SameTables (old new : Shelf) : Type 0 where
  pub same : (k : ℕ) → SameEntry (slot_at old.entries k) (slot_at new.entries k)
  pub count : length new.entries ≡ length old.entries
  pub made : new.made ≡ old.made
  pub size : new.places.size ≡ old.places.size

-- each segment keeps its bytes, where the device tells them, its age, its size and its attributes
pub record KeepsAll (told : Bool) (pic : Pictures) (old : Shelf) (before : ℕ → List ℕ) (new : Shelf) (after : ℕ → List ℕ) : Type 0 where
  pub bytes : IsTrue told → (k j : ℕ) → j < (entry old k).size → byte_at new pic after k j ≡ byte_at old pic before k j
  pub tables : SameTables old new

-- a clean segment in memory has the bytes of its image
pub record AreClean (s : Shelf) (pic : Pictures) : Type 0 where
  pub bytes : (k at len j : ℕ) → (entry s k).attr.clean ≡ true → place_of s k ≡ Some (at, len) → j < (entry s k).size
      → (block : ℕ → List ℕ) → slice_index_or s.memory (at + j) 0 ≡ out_byte s pic block k j

-- a segment in memory has the bytes there that it would have out of it
abbrev pub IsSaved : Bool → Pictures → Shelf → (ℕ → List ℕ) → ℕ → Type 0
IsSaved told pic s block key = IsTrue told → (at len j : ℕ) → place_of s key ≡ Some (at, len) → j < (entry s key).size → out_byte s pic block key j ≡ slice_index_or s.memory (at + j) 0

-- what may be discarded: its flags say so by bit 2, and it is neither clean nor locked
pub record IsDiscardable (a : Attr) : Type 0 where
  pub flag : (a.flags / 4 % 2 == 1) ≡ true
  pub written : a.clean ≡ false
  pub unlocked : a.lock ≡ 0

-- a discarded segment: it has no place in memory, and none of its bytes is kept
pub record IsGone (e : Entry) (place : Option (ℕ × ℕ)) : Type 0 where
  pub out : place ≡ None
  pub image : e.image ≡ None
  pub kept : e.kept ≡ 0
  pub kind : IsDiscardable e.attr

-- what holds of a number's entry, its place in memory, its mark in the clock and how many blocks it has
pub record IsSegment (made : ℕ) (o : Option Entry) (place : Option (ℕ × ℕ)) (present : Bool) (blocks : ℕ) : Type 0 where
  -- a range is as long as the size, rounded up
  pub placed : (at len : ℕ) → place ≡ Some (at, len) → len ≡ rounded (entry_or o).size
  -- the clock knows those in memory that aren't locked
  pub clock : present ≡ (is_some place && ((entry_or o).attr.lock == 0))
  pub locked : 0 < (entry_or o).attr.lock → IsSome place
  pub dead : o ≡ None → place ≡ None
  pub live : IsSome o → 0 < (entry_or o).size
  pub young : IsSome o → (entry_or o).age < made
  pub sized : (entry_or o).size ≤ 65536
  pub kept : (entry_or o).kept ≤ (entry_or o).size
  -- what doesn't come from an image has blocks for its kept bytes; what does has none
  pub stored : (entry_or o).image ≡ None → blocks ≡ blocks_for (entry_or o).kept
  pub pure : IsSome (entry_or o).image → blocks ≡ 0
  pub clean : (entry_or o).attr.clean ≡ true → IsSome (entry_or o).image
  pub gone : (entry_or o).attr.gone ≡ true → IsGone (entry_or o) place

abbrev pub IsSegmentAt : Shelf → ℕ → Type 0
IsSegmentAt s k = IsSegment s.made (slot_at s.entries k) (place_of s k) (mark_of s.turns.marks k).present (length (blocks_of s.swap k))

-- a presence in the clock that follows a lock
abbrev pub FollowsLock : Bool → Bool → ℕ → ℕ → Type 0
FollowsLock old new before now = (placed : Bool) → old ≡ (placed && (before == 0)) → (0 < before → placed ≡ true) → new ≡ (placed && (now == 0))

-- what holds of every store
pub record IsShelf (s : Shelf) : Type 0 where
  pub memory : s.places.size ≡ length s.memory
  pub small : length s.memory ≤ 2 ^ 24
  pub few : length s.entries < 2 ^ 32 - 1
  pub places_most : s.places.most ≡ length s.entries
  pub swap_most : s.swap.most ≡ length s.entries
  pub turns_most : length s.turns.marks ≡ length s.entries
  pub numbered : (k at len : ℕ) → place_of s k ≡ Some (at, len) → k < length s.entries
  pub each : (k : ℕ) → k < length s.entries → IsSegmentAt s k

-- a segment in memory that isn't clean lacks more blocks than are free
pub record IsFull (s : Shelf) : Type 0 where
  pub victim : ℕ
  pub present : IsSome (place_of s victim)
  pub written : (entry s victim).attr.clean ≡ false
  pub lacks : length (free s.swap) < blocks_for (entry s victim).size - length (blocks_of s.swap victim)

-- what the locked segments take
abbrev pub locked_need : List (Option Entry) → ℕ → ℕ
locked_need es k = if nat_lt 0 (entry_or (slot_at es k)).attr.lock then rounded (entry_or (slot_at es k)).size else 0

-- what the locked segments take together
abbrev pub all_locked : List (Option Entry) → ℕ
all_locked es = over (locked_need es) (length es)

-- a new segment under a number that had none
pub record Adds (old new : Shelf) (id : SegId) (e : Entry) : Type 0 where
  pub within : id.key < length old.entries
  pub vacant : slot_at old.entries id.key ≡ None
  pub age : id.age ≡ old.made
  pub shelf : new ≡ record old { entries = slice_set old.entries id.key (Some e); made = old.made + 1 }

-- where a segment's bytes are shown to be
abbrev pub shown_out : Option (ℕ × ℕ) → ℕ → Place
shown_out None kept = if kept == 0 then shown.Zeros else shown.Blocks
shown_out (Some p) kept = shown.Image p.0 p.1

abbrev pub shown_at : Option (ℕ × ℕ) → Entry → Place
shown_at None e = shown_out e.image e.kept
shown_at (Some r) e = shown.Memory r.0

-- how many bytes are kept out of memory; in memory the size
abbrev pub kept_of : Option (ℕ × ℕ) → Entry → ℕ
kept_of None e = e.kept
kept_of (Some r) e = e.size

-- the k-th block of an owner with an entry
abbrev pub block_of : Blocks → ℕ → ℕ → Option Entry → Option ℕ
block_of m key k None = None
block_of m key k (Some e) = slice_get (blocks_of m key) k

-- the segment of a number
abbrev pub numbered : Shelf → ℕ → SegId
numbered s k = record { key = k; age = (entry s k).age }

-- a number has no segment any more, no range and no blocks, and all others keep what they have
pub record Removes (old new : Shelf) (key : ℕ) : Type 0 where
  pub shelf : new ≡ record old { places = new.places; turns = new.turns; swap = new.swap; entries = slice_set old.entries key None }
  pub out : place_of new key ≡ None
  pub blocks : blocks_of new.swap key ≡ []
  pub entries : (k : ℕ) → k ≢ key → slot_at new.entries k ≡ slot_at old.entries k
  pub places : (k : ℕ) → k ≢ key → place_of new k ≡ place_of old k
  pub bytes : (pic : Pictures) (block : ℕ → List ℕ) (k j : ℕ) → k ≢ key → byte_at new pic block k j ≡ byte_at old pic block k j

-- a segment's entry once it is discarded: its size stays, and none of its bytes is kept
abbrev pub discarded_entry : Entry → Entry
discarded_entry e = record e { kept = 0; image = None; attr = record e.attr { gone = true } }

-- a number's segment is discarded: it has no range and no blocks any more, its bytes are zeros, and all others keep what they have
pub record Discards (old new : Shelf) (key : ℕ) : Type 0 where
  pub shelf : new ≡ record old {
    places = new.places;
    turns = new.turns;
    swap = new.swap;
    entries = slice_set old.entries key (Some (discarded_entry (entry old key)));
  }
  pub out : place_of new key ≡ None
  pub blocks : blocks_of new.swap key ≡ []
  pub zeros : (pic : Pictures) (block : ℕ → List ℕ) (j : ℕ) → byte_at new pic block key j ≡ 0
  pub entries : (k : ℕ) → k ≢ key → slot_at new.entries k ≡ slot_at old.entries k
  pub places : (k : ℕ) → k ≢ key → place_of new k ≡ place_of old k
  pub bytes : (pic : Pictures) (block : ℕ → List ℕ) (k j : ℕ) → k ≢ key → byte_at new pic block k j ≡ byte_at old pic block k j

-- where a segment that isn't stale begins in memory
abbrev pub base_of : Option Entry → Option (ℕ × ℕ) → Option ℕ
base_of None place = None
base_of (Some e) None = None
base_of (Some e) (Some r) = Some r.0

-- the segments in memory may have moved, with their bytes, and nothing else changes
pub record IsMoved (old new : Shelf) : Type 0 where
  pub shelf : new ≡ record old { memory = new.memory; places = new.places }
  pub none : (k : ℕ) → place_of old k ≡ None → place_of new k ≡ None
  pub some : (k at len : ℕ) → place_of old k ≡ Some (at, len)
      → (to : ℕ) × (place_of new k ≡ Some (to, len)) × ((j : ℕ) → j < len → slice_index_or new.memory (to + j) 0 ≡ slice_index_or old.memory (at + j) 0)
  pub size : new.places.size ≡ old.places.size
  pub load : used new.places.ranges ≡ used old.places.ranges

-- a byte that a call learns: of an image, or of a device that tells
abbrev pub Tells : Bool → Option (ℕ × ℕ) → Type 0
Tells told image = IsSome image ⊎ IsTrue told

-- there are images for all segments that come from one
abbrev pub HasAll : (ℕ → ℕ → Type 0) → Shelf → Type 0
HasAll has s = (k m seg : ℕ) → (entry s k).image ≡ Some (m, seg) → has m seg
