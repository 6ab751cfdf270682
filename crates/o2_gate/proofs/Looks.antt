-- What goes for each row of the table, and that a row looks at its own words alone.
use Rattle.std.proofs.Common.{◌≡◌, ℕ, zero, suc, ◌+◌, Bool, true, false, cond, ◌==◌, List, [], ◌∷◌, Option, Some, None, ap, sym, ◌∙◌, refl, subst, arith}
use Rattle.o2_world.specs.Calls.{Before, row_of, rows}
use Rattle.o2_world.specs.Map.{get}
use Rattle.o2_world.specs.Outcomes.{CallRow}
use Rattle.o2_world.specs.Slots.{words_in}
use Rattle.o2_gate.specs.Given.{AreSame, word_in}

abbrev pub EachEntry : {X : Type 0} → (ℕ → X → Type 0) → List (ℕ × X) → Type 0
EachEntry P [] = Unit {0}
EachEntry P (e ∷ es) = P e.0 e.1 × EachEntry P es

module _ {X : Type 0} (P : ℕ → X → Type 0) (k : ℕ) (x : X) where
  same_number : (n : ℕ) → (n == k) ≡ true → n ≡ k
  same_number n e = grind arith

  go : (n : ℕ) (y : X) (es : List (ℕ × X)) → P n y → (get es k ≡ Some x → P k x) → (c : Bool) → (n == k) ≡ c → cond c (Some y) (get es k) ≡ Some x → P k x
  go n y es here later true q is = let same : y ≡ x = cc in subst (λ (z : X). P k z) same (subst (λ (m : ℕ). P m y) (same_number n q) here)
  go n y es here later false q is = later is

  found : (es : List (ℕ × X)) → EachEntry P es → get es k ≡ Some x → P k x
  found [] each is = absurd (let z : ◌≡◌ {A = Option X} None (Some x) = is in cc)
  found (e ∷ es) each is = go e.0 e.1 es each.0 (found es each.1) (e.0 == k) refl is

pub of_entry : (P : ℕ → CallRow → Type 0) → EachEntry P rows → (service : ℕ) (r : CallRow) → row_of service ≡ Some r → P service r
unfolding row_of
of_entry P each service r e = found P service r rows each e

-- the first words
abbrev from : ℕ → ℕ → (ℕ → ℕ) → List ℕ
from k zero a = []
from k (suc n) a = a k ∷ from (k + 1) n a

same_from : (a w : ℕ → ℕ) (n k : ℕ) → AreSame (k + n) a w → from k n a ≡ from k n w
same_from a w zero k same = refl
same_from a w (suc n) k same =
    ap (λ (x : ℕ). x ∷ from (k + 1) n a) (same k (omega arith)) ∙ ap (λ (xs : List ℕ). w k ∷ xs) (same_from a w n (k + 1) (λ i lt. same i (omega (arith, lt))))

abbrev pub Looks : CallRow → Type 0
Looks r = (b : Before) (a w : ℕ → ℕ) → AreSame (words_in r.slots) a w → r.outcome b a ≡ r.outcome b w

-- its outcome is the same by its first words alone
abbrev Starts : ℕ → CallRow → Type 0
Starts service r = (b : Before) (a : ℕ → ℕ) → r.outcome b a ≡ r.outcome b (word_in (from 0 (words_in r.slots) a))

starts : EachEntry Starts rows
starts = (
  λ b a. refl,
  (
    λ b a. refl,
    (
      λ b a. refl,
      (
        λ b a. refl,
        (
          λ b a. refl,
          (
            λ b a. refl,
            (
              λ b a. refl,
              (
                λ b a. refl,
                (
                  λ b a. refl,
                  (
                    λ b a. refl,
                    (
                      λ b a. refl,
                      (
                        λ b a. refl,
                        (
                          λ b a. refl,
                          (
                            λ b a. refl,
                            (
                              λ b a. refl,
                              (
                                λ b a. refl,
                                (
                                  λ b a. refl,
                                  (
                                    λ b a. refl,
                                    (λ b a. refl, (λ b a. refl, (λ b a. refl, (λ b a. refl, (λ b a. refl, (λ b a. refl, (λ b a. refl, (λ b a. refl, tt)))))))),
                                  ),
                                ),
                              ),
                            ),
                          ),
                        ),
                      ),
                    ),
                  ),
                ),
              ),
            ),
          ),
        ),
      ),
    ),
  ),
)

pub looks : (service : ℕ) (r : CallRow) → row_of service ≡ Some r → Looks r
looks service r e b a w same =
    let is = of_entry Starts starts service r e in
    is b a ∙ ap (λ (xs : List ℕ). r.outcome b (word_in xs)) (same_from a w (words_in r.slots) 0 (λ i lt. same i (omega (arith, lt)))) ∙ sym (is b w)
