-- Who leaves the memory for a segment that comes in, in the order of the clock.
use Rattle.std.specs.Prelude.{◌≡◌, ◌≢◌, ℕ, ◌+◌, ◌<◌, List, [], ◌∷◌, is_some, true, None, slice_set, nat_lt}
use Rattle.o2_place.specs.declared.seg_id.SegId.{SegId}
use Rattle.o2_place.specs.Layout.{len_of, used}
use Rattle.o2_place.specs.Marks.{ComesBefore, IsPresent, IsUnused, OnlyUnmarks, Turns, mark_of, no_mark, place_in}
use Rattle.o2_store.specs.Leaving.{MayLeave}
use Rattle.o2_store.specs.Shelf.{SameTables, Shelf, place_of}

-- the one whose turn it is, and the clock when the hand has come to it: it is unused if any that may leave is; each of these
-- that comes before it was used, is unused now, and it itself was unused; and where all were used, all are unused now
pub record IsNextOut (s : Shelf) (after : Turns) (key : ℕ) (keep : List SegId) (out : SegId) : Type 0 where
  pub may : MayLeave s key keep out
  pub unused : (k : SegId) → MayLeave s key keep k → IsUnused s.turns.marks k.key → IsUnused s.turns.marks out.key
  pub before : (k : SegId) → MayLeave s key keep k → ComesBefore s.turns.hand (place_in s.turns k.key) (place_in s.turns out.key)
      → ((mark_of s.turns.marks k.key).used ≡ true) × IsUnused after.marks k.key × IsUnused s.turns.marks out.key
  pub round : ((k : SegId) → MayLeave s key keep k → IsUnused s.turns.marks k.key → ⊥) → (k : SegId) → MayLeave s key keep k → IsUnused after.marks k.key
  pub unmarks : OnlyUnmarks s.turns.marks after.marks
  pub hand : after.hand ≡ place_in s.turns out.key + 1
  pub places : after.places ≡ s.turns.places

-- the clock when one has left: its mark is gone, all others have theirs, and the same ones are yet to be passed
pub record HasLeft (before after : Turns) (number : ℕ) : Type 0 where
  pub marks : after.marks ≡ slice_set before.marks number no_mark
  pub ahead : (k : ℕ) → IsPresent before.marks k → k ≢ number → nat_lt (place_in after k) after.hand ≡ nat_lt (place_in before k) before.hand

-- one leaves for so many bytes that have no room yet: the one whose turn it is
pub record TakesNext (key : ℕ) (keep : List SegId) (len : ℕ) (old new : Shelf) : Type 0 where
  pub out : SegId
  pub passed : Turns
  pub next : IsNextOut old passed key keep out
  pub short : old.places.size < used old.places.ranges + len
  pub gone : place_of new out.key ≡ None
  pub others : (k : ℕ) → k ≢ out.key → place_of new k ≡ place_of old k
  pub load : used new.places.ranges + len_of (place_of old out.key) ≡ used old.places.ranges
  pub tables : SameTables old new
  pub left : HasLeft passed new.turns out.key

-- one after the other leaves so
abbrev pub TakeTurns : (key : ℕ) (keep : List SegId) (len : ℕ) (s : Shelf) (later : List Shelf) → Type 0
TakeTurns key keep len s [] = Unit {0}
TakeTurns key keep len s (t ∷ later) = TakesNext key keep len s t × TakeTurns key keep len t later

-- the last of a shelf and later ones
abbrev pub last_of : Shelf → List Shelf → Shelf
last_of s [] = s
last_of s (t ∷ later) = last_of t later

-- all who left the memory for a number's segment did so one after the other, each while room was wanting, each in its turn
pub record LeaveInTurn (key : ℕ) (keep : List SegId) (len : ℕ) (old new : Shelf) : Type 0 where
  pub later : List Shelf
  pub turns : TakeTurns key keep len old later
  pub others : (k : ℕ) → k ≢ key → is_some (place_of new k) ≡ is_some (place_of (last_of old later) k)
