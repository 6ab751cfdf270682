-- Gaps of a memory, by where its segments lie.
use Rattle.std.specs.Prelude.{◌≡◌, ◌≢◌, ◌⊎◌, ℕ, ◌+◌, ◌≤◌, Some, IsSome}
use Rattle.o2_store.specs.Shelf.{Shelf, place_of}

-- so many bytes from a place on lie within the memory, and no segment has one of them
pub record IsGap (s : Shelf) (start count : ℕ) : Type 0 where
  pub within : start + count ≤ s.places.size
  pub apart : (k at len : ℕ) → place_of s k ≡ Some (at, len) → (start + count ≤ at) ⊎ (at + len ≤ start)

-- the same by those segments alone, where they were, that stay in memory; one of them is left out
pub record IsGapBehind (old new : Shelf) (key start count : ℕ) : Type 0 where
  pub within : start + count ≤ old.places.size
  pub apart : (k at len : ℕ) → k ≢ key → IsSome (place_of new k) → place_of old k ≡ Some (at, len) → (start + count ≤ at) ⊎ (at + len ≤ start)

-- where a gap is long enough for one segment once those that leave have left, no other one slides
abbrev pub SlideFor : (old new : Shelf) → (key count : ℕ) → Type 0
SlideFor old new key count = (start k : ℕ) → IsGapBehind old new key start count → k ≢ key → IsSome (place_of new k) → place_of new k ≡ place_of old k
