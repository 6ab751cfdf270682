-- Who holds a segment: the definition, and lists by key that tell it.
use Rattle.std.specs.Prelude.{◌≡◌, ◌⊎◌, ℕ, ◌+◌, ◌/◌, ◌%◌, ◌<◌, ◌≤◌, ◌==◌, Bool, true, false, List, [], ◌∷◌, length, map, Option, Some, None, if◌then◌else◌, slice_index_or}
use Rattle.o2_place.specs.declared.seg_id.SegId.{SegId}
use Rattle.o2_regions.specs.declared.held.Held.{Held}
use Rattle.o2_regions.specs.Maps.{Maps, is_of}

-- the places of a list, from a number on, whose elements pass a test
abbrev pub places_from : (Option Held → Bool) → List (Option Held) → ℕ → List ℕ
places_from test [] at = []
places_from test (o ∷ os) at = if test o then at ∷ places_from test os (at + 1) else places_from test os (at + 1)

-- the process and the index of a place
abbrev pub pair_at : ℕ → ℕ × ℕ
pair_at p = (p / 8192, p % 8192)

-- the processes and indexes that hold a segment, by process, then by index
abbrev pub holders : Maps → SegId → List (ℕ × ℕ)
holders m id = map pair_at (places_from (is_of id) m.held 0)

-- the list that a key's holders stand in: keys that are the same modulo 65,536 share one
abbrev pub list_of : ℕ → ℕ
list_of key = key % 65536

abbrev pub is_in : ℕ → Option Held → Bool
is_in b None = false
is_in b (Some h) = list_of h.id.key == b

-- whether a place stands in a list
abbrev pub stands_in : List (Option Held) → ℕ → ℕ → Bool
stands_in held b p = is_in b (slice_index_or held p None)

-- r is the lowest place from y on, below n, that passes; or s where there is none
pub record IsNext (test : ℕ → Bool) (n s y r : ℕ) : Type 0 where
  pub here : r < n → (y ≤ r) × (test r ≡ true)
  pub past : n ≤ r → r ≡ s
  pub clear : (z : ℕ) → y ≤ z → z < r → z < n → test z ≡ false

-- r is the highest place below y that passes; or s where there is none
pub record IsLast (test : ℕ → Bool) (n s y r : ℕ) : Type 0 where
  pub here : r < n → (r < y) × (test r ≡ true)
  pub past : n ≤ r → r ≡ s
  pub clear : (z : ℕ) → z < y → (r < n → r < z) → test z ≡ false

-- x is the head s of a list, behind which its places come from 0 on; or a place of the list, with those behind it
abbrev pub IsBefore : (ℕ → Bool) → ℕ → ℕ → ℕ → ℕ → Type 0
IsBefore test n s x y = ((x ≡ s) × (y ≡ 0)) ⊎ ((x < n) × (test x ≡ true) × (y ≡ x + 1))

-- x is the head s of a list, before which its places come up to n; or a place of the list, with those before it
abbrev pub IsBehind : (ℕ → Bool) → ℕ → ℕ → ℕ → ℕ → Type 0
IsBehind test n s x y = ((x ≡ s) × (y ≡ n)) ⊎ ((x < n) × (test x ≡ true) × (y ≡ x))

-- behind the n places stand the heads of 65,536 lists, and `next` leads from each head and each place of a list to the next place
-- of it, and from the last one back to the head
pub record AreNext (n : ℕ) (held : List (Option Held)) (next : List ℕ) : Type 0 where
  pub next_long : length next ≡ n + 65536
  pub leads : (b x y : ℕ) → b < 65536 → IsBefore (stands_in held b) n (n + b) x y → IsNext (stands_in held b) n (n + b) y (slice_index_or next x 0)

-- and `prev` leads the other way
pub record ArePrev (n : ℕ) (held : List (Option Held)) (prev : List ℕ) : Type 0 where
  pub prev_long : length prev ≡ n + 65536
  pub leads : (b x y : ℕ) → b < 65536 → IsBehind (stands_in held b) n (n + b) x y → IsLast (stands_in held b) n (n + b) y (slice_index_or prev x 0)
