-- Finite maps from numbers, as lists of pairs that are seen by look-ups alone: of two pairs of one number the first counts.
use Rattle.std.specs.Prelude.{ℕ, List, [], ◌∷◌, Option, Some, None, if◌then◌else◌, ◌==◌, not, filter, map}

abbrev pub Map : Type 0 → Type 0
Map X = List (ℕ × X)

abbrev pub get : {X : Type 0} → Map X → ℕ → Option X
get [] k = None
get (e ∷ es) k = if e.0 == k then Some e.1 else get es k

-- with this under a key, or nothing
abbrev pub put : {X : Type 0} → ℕ → Option X → Map X → Map X
put {X} k None m = filter (λ (e : ℕ × X). not (e.0 == k)) m
put k (Some x) m = (k, x) ∷ m

-- with the value under a key changed, in its place
abbrev pub at_key : {X : Type 0} → ℕ → (X → X) → Map X → Map X
at_key {X} k f m = map (λ (e : ℕ × X). (e.0, if e.0 == k then f e.1 else e.1)) m
