-- The bytes of the ranges of a memory.
use Rattle.std.specs.Prelude.{◌≡◌, ◌≢◌, ℕ, ◌+◌, ◌-◌, ◌<◌, ◌≤◌, Some, None, List, length, take, drop, Option, option_map}
use Rattle.o2_phys.specs.Bytes.{part}
use Rattle.o2_place.specs.Layout.{Layout, find_in, used, len_of, ids_of, without, IsFree, range_at}

-- the bytes of an id's range
abbrev pub part_of : List ℕ → Layout → ℕ → Option (List ℕ)
part_of memory places id = option_map (λ r. part memory r.0 r.1) (find_in places.ranges id)

-- the length of an id's range, and 0 where it has none
abbrev pub length_of : Layout → ℕ → ℕ
length_of places id = len_of (find_in places.ranges id)

-- each id's bytes stay, and the order in which the ranges lie, though a range may move
pub record KeepsParts (m : List ℕ) (p : Layout) (n : List ℕ) (q : Layout) : Type 0 where
  pub parts : (id : ℕ) → part_of n q id ≡ part_of m p id
  pub lengths : (id : ℕ) → length_of q id ≡ length_of p id
  pub whole : length n ≡ length m
  pub size : q.size ≡ p.size
  pub most : q.most ≡ p.most
  pub count : length q.ranges ≡ length p.ranges
  pub load : used q.ranges ≡ used p.ranges
  pub order : ids_of q.ranges ≡ ids_of p.ranges

-- an id has a range of this length, whose first bytes are its old ones, and all others keep theirs and their order
pub record OpensGap (m : List ℕ) (p : Layout) (n : List ℕ) (q : Layout) (id len : ℕ) : Type 0 where
  pub wanted : length_of q id ≡ len
  pub front : option_map (λ bytes. take (length_of p id) bytes) (part_of n q id) ≡ part_of m p id
  pub others : (k : ℕ) → k ≢ id → part_of n q k ≡ part_of m p k
  pub lengths : (k : ℕ) → k ≢ id → length_of q k ≡ length_of p k
  pub whole : length n ≡ length m
  pub size : q.size ≡ p.size
  pub most : q.most ≡ p.most
  pub count : length q.ranges ≡ length p.ranges
  pub load : used q.ranges + length_of p id ≡ used p.ranges + len
  pub order : without id (ids_of q.ranges) ≡ without id (ids_of p.ranges)

-- all ids but one have the ranges that they had
abbrev pub StayBut : Layout → Layout → ℕ → Type 0
StayBut p q id = (k : ℕ) → k ≢ id → find_in q.ranges k ≡ find_in p.ranges k

-- where there is room behind the range of an id, it grows there, and no other one moves
abbrev pub GrowsInPlace : Layout → Layout → ℕ → ℕ → Type 0
GrowsInPlace p q id len = (at was : ℕ) → find_in p.ranges id ≡ Some (at, was) → IsFree p.size p.ranges (at + was) (len - was) → (find_in q.ranges id ≡ Some (at, len)) × StayBut p q id

-- where a gap has room for it, no other one moves
abbrev pub MovesAlone : Layout → Layout → ℕ → ℕ → Type 0
MovesAlone p q id len = (at : ℕ) → IsFree p.size p.ranges at len → StayBut p q id

-- all ids have the ranges that they had, but those of the n-th range and the ones behind it
abbrev pub StayInFront : Layout → Layout → ℕ → Type 0
StayInFront p q n = (id : ℕ) → find_in (drop n q.ranges) id ≡ None → find_in q.ranges id ≡ find_in p.ranges id

-- the n-th range and each one behind it begin below where they began
abbrev pub SlideBehind : Layout → Layout → ℕ → Type 0
SlideBehind p q n = (k : ℕ) → n ≤ k → k < length q.ranges → (range_at q.ranges k).at < (range_at p.ranges k).at
