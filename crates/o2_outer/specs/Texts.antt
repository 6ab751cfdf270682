-- How what the outside holds grows, and how a count of faults rises.
use Rattle.std.specs.Prelude.{◌≡◌, ℕ, ◌+◌, ◌-◌, ◌^◌, ◌≤◌, min, List, ◌++◌, Option, Some}

-- the count of faults rose; one that stands at its end counts as risen
abbrev pub Rose : ℕ → ℕ → Type 0
Rose before now = min (before + 1) (2 ^ 64 - 1) ≤ now

-- one fault more; the count stops at the greatest number
abbrev pub risen : ℕ → ℕ
risen before = min (before + 1) (2 ^ 64 - 1)

abbrev pub IsPrefix : List ℕ → List ℕ → Type 0
IsPrefix front whole = (rest : List ℕ) × (whole ≡ front ++ rest)

-- where the bytes taken are told, they grew by this piece
abbrev pub Gains : Option (List ℕ) → Option (List ℕ) → List ℕ → Type 0
Gains old new piece = (t : List ℕ) → old ≡ Some t → new ≡ Some (t ++ piece)

-- where the bytes taken are told, they grew by a piece that has P
abbrev pub GainsSome : Option (List ℕ) → Option (List ℕ) → (List ℕ → Type 0) → Type 0
GainsSome old new P = (t : List ℕ) → old ≡ Some t → (piece : List ℕ) × (new ≡ Some (t ++ piece)) × P piece

-- they grew by at least the one text and at most the other
abbrev pub GainsBetween : Option (List ℕ) → Option (List ℕ) → List ℕ → List ℕ → Type 0
GainsBetween old new low high = GainsSome old new (λ piece. IsPrefix low piece × IsPrefix piece high)

-- behind a front and the one text, they go on to the front and the other text
abbrev pub Continues : Option (List ℕ) → Option (List ℕ) → List ℕ → List ℕ → Type 0
Continues old new low high = (t : List ℕ) → old ≡ Some (t ++ low) → new ≡ Some (t ++ high)

-- they go on to somewhere between the two texts
abbrev pub ContinuesBetween : Option (List ℕ) → Option (List ℕ) → List ℕ → List ℕ → Type 0
ContinuesBetween old new low high = (t : List ℕ) → old ≡ Some (t ++ low) → (piece : List ℕ) × (new ≡ Some (t ++ piece)) × (IsPrefix low piece × IsPrefix piece high)
