-- What a step needs in memory together: segments, each with the size that it gets in the step, or 0.
use Rattle.std.specs.Prelude.{◌≡◌, ℕ, ◌<◌, List, [], ◌∷◌, length, map, ◌≤◌, Some, None, IsSome, Bool, true, false, ◌||◌, ◌==◌, if◌then◌else◌, nat_lt, slice_get, max}
use Rattle.o2_place.specs.declared.seg_id.SegId.{SegId}
use Rattle.o2_place.specs.Layout.{over}
use Rattle.o2_store.specs.Shelf.{Shelf, entry, entry_of, place_of, rounded}

-- the segments
abbrev pub segments_of : List (SegId × ℕ) → List SegId
segments_of need = map (λ (p : SegId × ℕ). p.0) need

-- whether a number's segment is needed
abbrev pub needs : List (SegId × ℕ) → ℕ → Bool
needs [] k = false
needs (p ∷ ps) k = k == p.0.key || needs ps k

-- the largest size that a number's segment gets
abbrev pub size_in : List (SegId × ℕ) → ℕ → ℕ
size_in [] k = 0
size_in (p ∷ ps) k = max (if k == p.0.key then p.1 else 0) (size_in ps k)

-- what a segment takes that is needed or locked, at the larger of its size and those that it gets
abbrev pub needed : Shelf → List (SegId × ℕ) → ℕ → ℕ
needed s need k = if nat_lt 0 (entry s k).attr.lock || needs need k then rounded (max (entry s k).size (size_in need k)) else 0

-- what all these take together, each once
abbrev pub all_needed : Shelf → List (SegId × ℕ) → ℕ
all_needed s need = over (needed s need) (length s.entries)

-- each segment is live
pub record AreLive (s : Shelf) (need : List (SegId × ℕ)) : Type 0 where
  pub each : (i : ℕ) (p : SegId × ℕ) → slice_get need i ≡ Some p → IsSome (entry_of s p.0)

-- none was discarded
pub record AreWhole (s : Shelf) (need : List (SegId × ℕ)) : Type 0 where
  pub each : (i : ℕ) (p : SegId × ℕ) → slice_get need i ≡ Some p → (entry s p.0.key).attr.gone ≡ false

-- the first n are in memory
pub record ArePresent (s : Shelf) (need : List (SegId × ℕ)) (n : ℕ) : Type 0 where
  pub each : (i : ℕ) (p : SegId × ℕ) → i < n → slice_get need i ≡ Some p → IsSome (place_of s p.0.key)

-- each is in memory, and gets no larger size
pub record AreServed (s : Shelf) (need : List (SegId × ℕ)) : Type 0 where
  pub place : (i : ℕ) (p : SegId × ℕ) → slice_get need i ≡ Some p → IsSome (place_of s p.0.key)
  pub size : (i : ℕ) (p : SegId × ℕ) → slice_get need i ≡ Some p → p.1 ≤ (entry s p.0.key).size

-- what is needed and in memory stays there
pub record Stays (need : List (SegId × ℕ)) (old new : Shelf) : Type 0 where
  pub each : (k : ℕ) → needs need k ≡ true → IsSome (place_of old k) → IsSome (place_of new k)

-- nothing else comes into memory
pub record OnlyNeededComes (need : List (SegId × ℕ)) (old new : Shelf) : Type 0 where
  pub each : (k : ℕ) → needs need k ≡ false → place_of old k ≡ None → place_of new k ≡ None
