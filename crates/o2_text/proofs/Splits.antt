-- A text is split where a mark stands that its parts don't have.
use Rattle.std.proofs.Common.{◌≡◌, refl, ap, ℕ, Bool, true, cond, eqb, not, ◌&&◌, List, [], ◌∷◌, ◌++◌, rules}
use Rattle.std.proofs.lemmas.Bool.{and_parts, not-true}

-- the list doesn't have this number
abbrev pub lacks : ℕ → List ℕ → Bool
lacks c [] = true
lacks c (x ∷ xs) = not (eqb x c) && lacks c xs

-- what stands before the mark, and all if it isn't there
abbrev pub before : ℕ → List ℕ → List ℕ
before c [] = []
before c (x ∷ xs) = cond (eqb x c) [] (x ∷ before c xs)

-- what stands behind the mark, with it
abbrev pub from : ℕ → List ℕ → List ℕ
from c [] = []
from c (x ∷ xs) = cond (eqb x c) (x ∷ xs) (from c xs)

pub before_end : (c : ℕ) (a : List ℕ) → lacks c a ≡ true → before c a ≡ a
before_end c [] h = refl
before_end c (x ∷ a) h =
    let p = and_parts _ _ h in
    rw (not-true (eqb x c) p.0) (ap (λ t. x ∷ t) (before_end c a p.1))

pub from_end : (c : ℕ) (a : List ℕ) → lacks c a ≡ true → from c a ≡ []
from_end c [] h = refl
from_end c (x ∷ a) h =
    let p = and_parts _ _ h in
    rw (not-true (eqb x c) p.0) (from_end c a p.1)

mark_is : (c : ℕ) → eqb c c ≡ true
mark_is c = search (rules)

pub before_mark : (c : ℕ) (a r : List ℕ) → lacks c a ≡ true → before c (a ++ c ∷ r) ≡ a
before_mark c [] r h = rw (mark_is c) refl
before_mark c (x ∷ a) r h =
    let p = and_parts _ _ h in
    rw (not-true (eqb x c) p.0) (ap (λ t. x ∷ t) (before_mark c a r p.1))

pub from_mark : (c : ℕ) (a r : List ℕ) → lacks c a ≡ true → from c (a ++ c ∷ r) ≡ c ∷ r
from_mark c [] r h = rw (mark_is c) refl
from_mark c (x ∷ a) r h =
    let p = and_parts _ _ h in
    rw (not-true (eqb x c) p.0) (from_mark c a r p.1)
