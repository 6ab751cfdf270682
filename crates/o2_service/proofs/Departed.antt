-- Who leaves the memory for what is needed had to.
use Rattle.std.proofs.Common.{◌≡◌, inl, inr, ℕ, List, None, IsSome, Bool, true, false, refl}
use Rattle.o2_place.specs.declared.seg_id.SegId.{SegId}
use Rattle.o2_store.specs.Leaving.{LeaveFor}
use Rattle.o2_store.specs.Shelf.{Shelf, SameTables, place_of}
use Rattle.o2_store.proofs.Departing.{had_first, had_later, none_twice}
use Rattle.o2_store.proofs.Leaving.{by_presence, some_not_none}
use Rattle.o2_service.specs.Needs.{OnlyNeededComes, Stays, needs}

-- what leaves isn't needed
pub not_needed : (need : List (SegId × ℕ)) (s t : Shelf) (k : ℕ) → Stays need s t → IsSome (place_of s k) → place_of t k ≡ None → needs need k ≡ false
not_needed need s t k q i n = go (needs need k) refl
  where
    go : (b : Bool) → needs need k ≡ b → needs need k ≡ false
    go false e = e
    go true e = absurd (some_not_none (place_of t k) (q.each k e i) n)

-- what isn't needed and is there was there
pub was_there : (need : List (SegId × ℕ)) (s t : Shelf) (k : ℕ) → OnlyNeededComes need s t → needs need k ≡ false → IsSome (place_of t k) → IsSome (place_of s k)
was_there need s t k o f i = elim (by_presence (place_of s k)) [ inl n ↦ absurd (some_not_none (place_of t k) i (o.each k f n)) | inr y ↦ y ]

-- what one segment needs behind another
pub leave_needs : (need : List (SegId × ℕ)) (s t u : Shelf) → SameTables s t → u.places.size ≡ t.places.size → Stays need s t → OnlyNeededComes need s t → Stays need t u → OnlyNeededComes need t u
    → LeaveFor s t 0 → LeaveFor t u 0 → LeaveFor s u 0
leave_needs need s t u same size stays only later comes p q = elim q [
  | inl n ↦ elim p [
    | inl m ↦ inl (none_twice s t u m n)
    | inr h ↦ inr (had_later s t u 0 size n h (comes.each h.number (not_needed need s t h.number stays h.was h.out) h.out))
  ]
  | inr h ↦ inr (had_first s t u 0 same h (was_there need s t h.number only (not_needed need t u h.number later h.was h.out) h.was))
]
