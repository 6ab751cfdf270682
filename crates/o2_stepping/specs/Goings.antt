-- Who comes into memory for a step, and who leaves it, over all its tries.
use Rattle.std.specs.Prelude.{◌≡◌, ◌⊎◌, ℕ, ◌+◌, ◌≤◌, List, None, IsSome, false}
use Rattle.o2_isa.specs.Presence.{is_in}
use Rattle.o2_place.specs.Layout.{used}
use Rattle.o2_store.specs.Leaving.{HadToLeave}
use Rattle.o2_store.specs.Shelf.{Shelf, entry, place_of, rounded}

-- no segment leaves the memory, and what comes in is taken of it
pub record NoneGoes (s t : Shelf) : Type 0 where
  pub each : (k : ℕ) → IsSome (place_of s k) → IsSome (place_of t k)
  pub load : used s.places.ranges ≤ used t.places.ranges
  pub comes : (k : ℕ) → place_of s k ≡ None → IsSome (place_of t k) → used s.places.ranges + rounded (entry s k).size ≤ used t.places.ranges

-- none leaves the memory, or one of those that did had to: with it there too, all would be more than the memory
abbrev pub GoForRoom : Shelf → Shelf → Type 0
GoForRoom s t = NoneGoes s t ⊎ HadToLeave s t 0

-- no segment comes into memory but those of these names
pub record OnlyNamedCome (names : List ℕ) (s t : Shelf) : Type 0 where
  pub each : (k : ℕ) → is_in (entry s k).age names ≡ false → place_of s k ≡ None → place_of t k ≡ None
