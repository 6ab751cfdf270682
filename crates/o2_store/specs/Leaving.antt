-- What is left of segments that leave the memory.
use Rattle.std.specs.Prelude.{◌≡◌, ◌≢◌, ◌⊎◌, ℕ, ◌+◌, ◌-◌, ◌<◌, ◌≤◌, List, Some, None, is_some, IsSome, false, if◌then◌else◌, slice_index_or}
use Rattle.o2_entries.specs.Tables.{slot_at}
use Rattle.o2_place.specs.declared.seg_id.SegId.{SegId}
use Rattle.o2_place.specs.Layout.{used}
use Rattle.o2_place.specs.Marks.{IsVictim}
use Rattle.o2_store.specs.Needs.{named_in}
use Rattle.o2_store.specs.Shelf.{Shelf, IsFull, entry, entry_of, place_of, rounded}

-- the segment has no image any more, and the last byte that its blocks keep isn't zero
pub record IsWrittenOut (old new : Shelf) (k : ℕ) : Type 0 where
  pub image : (entry new k).image ≡ None
  pub last : (at len : ℕ) → place_of old k ≡ Some (at, len) → 0 < (entry new k).kept → slice_index_or old.memory (at + ((entry new k).kept - 1)) 0 ≢ 0

-- each segment that isn't clean and has left the memory went to its blocks
abbrev pub WritesOut : Shelf → Shelf → Type 0
WritesOut old new = (k : ℕ) → IsSome (place_of old k) → place_of new k ≡ None → (entry old k).attr.clean ≡ false → IsWrittenOut old new k

-- segments left the memory, which else stays as it is
pub record Evicts (old new : Shelf) : Type 0 where
  pub memory : new.memory ≡ old.memory
  pub places : (k : ℕ) → IsSome (place_of new k) → place_of new k ≡ place_of old k
  pub entries : (k : ℕ) → place_of old k ≡ None → slot_at new.entries k ≡ slot_at old.entries k
  pub written : WritesOut old new

-- a segment stays out of memory with its entry, for want of swap blocks
pub record IsStuck (old new : Shelf) (key : ℕ) : Type 0 where
  pub full : IsFull new
  pub out : place_of new key ≡ None
  pub same : slot_at new.entries key ≡ slot_at old.entries key

-- one segment left the memory: what the clock gives of those that aren't locked and not among the numbers
pub record TakesVictim (old new : Shelf) : Type 0 where
  pub number : ℕ
  pub victim : IsVictim old.turns.marks old.keys number
  pub was : IsSome (place_of old number)
  pub out : place_of new number ≡ None
  pub others : (k : ℕ) → k ≢ number → place_of new k ≡ place_of old k

-- a segment that may leave the memory for a number's one, which is to be there together with a list: a live one in memory that
-- isn't locked, isn't that one, and isn't named in the list
pub record MayLeave (s : Shelf) (key : ℕ) (keep : List SegId) (out : SegId) : Type 0 where
  pub live : IsSome (entry_of s out)
  pub here : IsSome (place_of s out.key)
  pub unlocked : (entry s out.key).attr.lock ≡ 0
  pub other : out.key ≢ key
  pub unnamed : named_in s.entries keep out.key ≡ false

-- what a segment has yet to get of the memory: nothing where it is there
abbrev pub lacking : Shelf → ℕ → ℕ
lacking s key = if is_some (place_of s key) then 0 else rounded (entry s key).size

-- no segment leaves the memory, and no less of it is taken
pub record NoneLeaves (old new : Shelf) : Type 0 where
  pub each : (k : ℕ) → IsSome (place_of old k) → IsSome (place_of new k)
  pub load : used old.places.ranges ≤ used new.places.ranges

-- one that left the memory had to: with it there too, so many bytes would have no room
pub record HadToLeave (old new : Shelf) (len : ℕ) : Type 0 where
  pub number : ℕ
  pub was : IsSome (place_of old number)
  pub out : place_of new number ≡ None
  pub short : new.places.size < used new.places.ranges + rounded (entry old number).size + len

-- segments leave the memory for so many bytes alone: none does, or one of them had to
abbrev pub LeaveFor : (old new : Shelf) → (len : ℕ) → Type 0
LeaveFor old new len = NoneLeaves old new ⊎ HadToLeave old new len
