-- Disjoint ranges of a memory, by rising place.
use Rattle.std.specs.Prelude.{◌≡◌, ℕ, ◌+◌, ◌<◌, ◌≤◌, ◌⊎◌, List, [], ◌∷◌, Option, Some, None, if◌then◌else◌, ◌==◌, sum_by, map, zero, suc, slice_set, slice_index_or, take}
use Rattle.o2_place.specs.declared.ranges.Range.{Range}

-- the ranges, the memory's size, and how many ids there may be
pub record Layout : Type 0 where
  pub ranges : List Range
  pub size : ℕ
  pub most : ℕ

-- where and how long the range of an id is
abbrev pub find_in : List Range → ℕ → Option (ℕ × ℕ)
find_in [] id = None
find_in (r ∷ rs) id = if id == r.id then Some (r.at, r.len) else find_in rs id

-- from low on the ranges lie one after another within the size, and none is empty
abbrev pub AreLaid : ℕ → ℕ → List Range → Type 0
AreLaid low size [] = low ≤ size
AreLaid low size (r ∷ rs) = (low ≤ r.at) × (0 < r.len) × AreLaid (r.at + r.len) size rs

-- no two ranges have one id
abbrev pub AreApart : List Range → Type 0
AreApart [] = Unit {0}
AreApart (r ∷ rs) = (find_in rs r.id ≡ None) × AreApart rs

-- what holds of the ranges
pub record IsLayout (a : Layout) : Type 0 where
  pub laid : AreLaid 0 a.size a.ranges
  pub apart : AreApart a.ranges
  pub below : (k at len : ℕ) → find_in a.ranges k ≡ Some (at, len) → k < a.most

-- the len bytes from at on lie within the size, and no range has one of them
abbrev pub IsFree : ℕ → List Range → ℕ → ℕ → Type 0
IsFree size [] at len = at + len ≤ size
IsFree size (r ∷ rs) at len = ((r.at + r.len ≤ at) ⊎ (at + len ≤ r.at)) × IsFree size rs at len

-- the lowest place that is free for so many bytes, or that none is
abbrev pub IsLowestFree : Layout → ℕ → Option ℕ → Type 0
IsLowestFree a len None = (b : ℕ) → IsFree a.size a.ranges b len → ⊥
IsLowestFree a len (Some at) = IsFree a.size a.ranges at len × ((b : ℕ) → b < at → IsFree a.size a.ranges b len → ⊥)

-- what is answered is free, and no place from low on is before it
abbrev pub IsLowestFrom : ℕ → ℕ → ℕ → List Range → Option ℕ → Type 0
IsLowestFrom low size len rs None = (b : ℕ) → low ≤ b → IsFree size rs b len → ⊥
IsLowestFrom low size len rs (Some at) = (low ≤ at) × IsFree size rs at len × ((b : ℕ) → low ≤ b → b < at → IsFree size rs b len → ⊥)

-- how many bytes are in ranges
abbrev pub used : List Range → ℕ
used rs = sum_by (λ r. r.len) rs

-- new is old with this at the id
pub record Changes (old new : Layout) (id : ℕ) (now : Option (ℕ × ℕ)) : Type 0 where
  pub at : (k : ℕ) → find_in new.ranges k ≡ (if k == id then now else find_in old.ranges k)
  pub size : new.size ≡ old.size
  pub most : new.most ≡ old.most

-- whose the ranges are, by rising place
abbrev pub ids_of : List Range → List ℕ
ids_of rs = map (λ (r : Range). r.id) rs

-- the list without an id
abbrev pub without : ℕ → List ℕ → List ℕ
without id [] = []
without id (k ∷ ks) = if id == k then without id ks else k ∷ without id ks

-- where the range before the k-th ends
abbrev pub end_before : ℕ → List Range → ℕ → ℕ
end_before low [] k = low
end_before low (r ∷ rs) zero = low
end_before low (r ∷ rs) (suc k) = end_before (r.at + r.len) rs k

-- where the k-th range begins, and past the last the memory's end
abbrev pub start_of : ℕ → List Range → ℕ → ℕ
start_of size [] k = size
start_of size (r ∷ rs) zero = r.at
start_of size (r ∷ rs) (suc k) = start_of size rs k

abbrev pub no_range : Range
no_range = record { id = 0; at = 0; len = 0 }

-- the k-th range
abbrev pub range_at : List Range → ℕ → Range
range_at rs k = slice_index_or rs k no_range

-- the first n ranges lie one behind the other from 0 on
abbrev pub IsPacked : List Range → ℕ → Type 0
IsPacked rs n = (k : ℕ) → k < n → (range_at rs k).at ≡ used (take k rs)

-- the layout with another place and length of the k-th range, whose id is this
abbrev pub reshaped : Layout → ℕ → ℕ → ℕ → ℕ → Layout
reshaped a k id at len = record a { ranges = slice_set a.ranges k (record { id = id; at = at; len = len }) }

abbrev pub len_of : Option (ℕ × ℕ) → ℕ
len_of None = 0
len_of (Some r) = r.1

abbrev pub one_of : Option (ℕ × ℕ) → ℕ
one_of None = 0
one_of (Some r) = 1

-- the sum over the numbers below n
abbrev pub over : (ℕ → ℕ) → ℕ → ℕ
over f zero = 0
over f (suc n) = over f n + f n
