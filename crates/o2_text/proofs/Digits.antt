-- The texts of numbers tell the numbers.
use Rattle.std.proofs.Common.{◌≡◌, ◌⊎◌, inl, inr, refl, sym, ◌∙◌, ℕ, ◌+◌, ◌/◌, ◌%◌, ◌<◌, ◌≤◌, nat_lt, List, [], ◌∷◌, arith}
use Rattle.std.proofs.lemmas.Bool.{ltb-true, ltb-false, cases_Bool}
use Rattle.o2_text.specs.Text.{digit, hex2, hex4, number, address}

pub digit_forms : (d : ℕ) → ((d < 10) × (digit d ≡ 48 + d)) ⊎ ((10 ≤ d) × (digit d ≡ 55 + d))
digit_forms d = elim (cases_Bool (nat_lt d 10)) [
  | inl e ↦ inl (ltb-true d 10 e, rw e refl)
  | inr e ↦ inr (ltb-false d 10 e, rw e refl)
]

-- over plain variables
sums_same : (a b x y : ℕ) → ((a < 10) × (x ≡ 48 + a)) ⊎ ((10 ≤ a) × (x ≡ 55 + a)) → ((b < 10) × (y ≡ 48 + b)) ⊎ ((10 ≤ b) × (y ≡ 55 + b)) → x ≡ y → a ≡ b
sums_same a b x y (inl p) (inl q) e = omega arith
sums_same a b x y (inl p) (inr q) e = omega arith
sums_same a b x y (inr p) (inl q) e = omega arith
sums_same a b x y (inr p) (inr q) e = omega arith

pub digit_same : (a b : ℕ) → digit a ≡ digit b → a ≡ b
digit_same a b e = sums_same a b (digit a) (digit b) (digit_forms a) (digit_forms b) e

-- a digit isn't this mark: a comma, a colon, a bracket
not_mark : (a x : ℕ) → ((a < 10) × (x ≡ 48 + a)) ⊎ ((10 ≤ a) × (x ≡ 55 + a)) → (x ≡ 44 → ⊥) × ((x ≡ 58 → ⊥) × (x ≡ 115 → a ≡ 60))
not_mark a x (inl p) = (λ e. omega arith, (λ e. omega arith, λ e. omega arith))
not_mark a x (inr p) = (λ e. omega arith, (λ e. omega arith, λ e. omega arith))

pub digit_no_comma : (d : ℕ) → digit d ≡ 44 → ⊥
digit_no_comma d = (not_mark d (digit d) (digit_forms d)).0

pub digit_no_colon : (d : ℕ) → digit d ≡ 58 → ⊥
digit_no_colon d = (not_mark d (digit d) (digit_forms d)).1.0

two_same : (a b c d : ℕ) → a ∷ b ∷ [] ≡ c ∷ d ∷ [] → (a ≡ c) × (b ≡ d)
two_same a b c d e = (cc, cc)

four_same : (a b c d e f g h : ℕ) → a ∷ b ∷ c ∷ d ∷ [] ≡ e ∷ f ∷ g ∷ h ∷ [] → (a ≡ e) × ((b ≡ f) × ((c ≡ g) × (d ≡ h)))
four_same a b c d e f g h q = (cc, (cc, (cc, cc)))

from_four : (n m : ℕ) → n / 4096 ≡ m / 4096 → n / 256 % 16 ≡ m / 256 % 16 → n / 16 % 16 ≡ m / 16 % 16 → n % 16 ≡ m % 16 → n ≡ m
from_four n m a b c d = omega arith

pub hex4_same : (n m : ℕ) → hex4 n ≡ hex4 m → n ≡ m
hex4_same n m e =
    let q = four_same _ _ _ _ _ _ _ _ e in
    from_four n m (digit_same _ _ q.0) (digit_same _ _ q.1.0) (digit_same _ _ q.1.1.0) (digit_same _ _ q.1.1.1)

from_two : (n m : ℕ) → n / 16 ≡ m / 16 → n % 16 ≡ m % 16 → n ≡ m
from_two n m a b = omega arith

pub hex2_same : (n m : ℕ) → hex2 n ≡ hex2 m → n ≡ m
hex2_same n m e =
    let q = two_same _ _ _ _ e in
    from_two n m (digit_same _ _ q.0) (digit_same _ _ q.1)

tail_same : (a b : ℕ) (x y : List ℕ) → a ∷ b ∷ x ≡ a ∷ b ∷ y → x ≡ y
tail_same a b x y e = cc

pub address_same : (n m : ℕ) → address n ≡ address m → n ≡ m
unfolding address
address_same n m e = hex4_same n m (tail_same 48 120 _ _ e)

pub number_forms : (n : ℕ) → (number n ≡ 48 ∷ 120 ∷ hex2 n) ⊎ (number n ≡ 48 ∷ 120 ∷ hex4 n)
unfolding number
number_forms n = elim (cases_Bool (nat_lt n 256)) [
  | inl e ↦ inl (rw e refl)
  | inr e ↦ inr (rw e refl)
]

sizes_differ : (a b c d e f : ℕ) → a ∷ b ∷ [] ≡ c ∷ d ∷ e ∷ f ∷ [] → ⊥
sizes_differ a b c d e f q = cc

numbers_same : (n m : ℕ) (x y : List ℕ) → (x ≡ 48 ∷ 120 ∷ hex2 n) ⊎ (x ≡ 48 ∷ 120 ∷ hex4 n) → (y ≡ 48 ∷ 120 ∷ hex2 m) ⊎ (y ≡ 48 ∷ 120 ∷ hex4 m) → x ≡ y → n ≡ m
numbers_same n m x y (inl p) (inl q) e = hex2_same n m (tail_same 48 120 _ _ (sym p ∙ (e ∙ q)))
numbers_same n m x y (inl p) (inr q) e = absurd (sizes_differ _ _ _ _ _ _ (tail_same 48 120 _ _ (sym p ∙ (e ∙ q))))
numbers_same n m x y (inr p) (inl q) e = absurd (sizes_differ _ _ _ _ _ _ (tail_same 48 120 _ _ (sym q ∙ (sym e ∙ p))))
numbers_same n m x y (inr p) (inr q) e = hex4_same n m (tail_same 48 120 _ _ (sym p ∙ (e ∙ q)))

pub number_same : (n m : ℕ) → number n ≡ number m → n ≡ m
number_same n m e = numbers_same n m (number n) (number m) (number_forms n) (number_forms m) e

-- where a jump goes tells its distance
pub target_same : (next n m : ℕ) → n < 65536 → m < 65536 → (next + n) % 65536 ≡ (next + m) % 65536 → n ≡ m
target_same next n m a b e = omega arith
