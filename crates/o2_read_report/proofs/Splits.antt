-- A text is split where a mark stands that its parts don't have, and its characters are looked up by place.
use Rattle.std.proofs.Common.{◌≡◌, refl, ap, ℕ, zero, suc, Bool, true, cond, eqb, List, [], ◌∷◌, ◌++◌, ◌||◌, false, rules}
use Rattle.o2_read_report.specs.Plain.{has}

-- the character at a place, 0 behind the end
abbrev pub char : ℕ → List ℕ → ℕ
char n [] = 0
char zero (x ∷ xs) = x
char (suc n) (x ∷ xs) = char n xs

abbrev pub skip : ℕ → List ℕ → List ℕ
skip zero xs = xs
skip (suc n) [] = []
skip (suc n) (x ∷ xs) = skip n xs

-- what stands before the mark
abbrev pub before : ℕ → List ℕ → List ℕ
before c [] = []
before c (x ∷ xs) = cond (eqb x c) [] (x ∷ before c xs)

-- what stands behind the mark, with it
abbrev pub from : ℕ → List ℕ → List ℕ
from c [] = []
from c (x ∷ xs) = cond (eqb x c) (x ∷ xs) (from c xs)

or_parts : (a b : Bool) → (a || b) ≡ false → (a ≡ false) × (b ≡ false)
or_parts true b e = absurd (cc)
or_parts false b e = (refl, e)

mark_is : (c : ℕ) → eqb c c ≡ true
mark_is c = search (rules)

pub before_mark : (c : ℕ) (a r : List ℕ) → has c a ≡ false → before c (a ++ c ∷ r) ≡ a
before_mark c [] r h = rw (mark_is c) refl
before_mark c (x ∷ a) r h =
    let p = or_parts (eqb x c) (has c a) h in
    rw p.0 (ap (λ t. x ∷ t) (before_mark c a r p.1))

pub from_mark : (c : ℕ) (a r : List ℕ) → has c a ≡ false → from c (a ++ c ∷ r) ≡ c ∷ r
from_mark c [] r h = rw (mark_is c) refl
from_mark c (x ∷ a) r h =
    let p = or_parts (eqb x c) (has c a) h in
    rw p.0 (from_mark c a r p.1)
