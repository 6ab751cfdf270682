-- Numbers are read back: four hexadecimal digits, and decimal digits up to what isn't one.
use Rattle.std.proofs.Common.{◌≡◌, ◌⊎◌, inl, inr, refl, ap, ◌∙◌, ℕ, zero, suc, ◌+◌, ◌-◌, ◌*◌, ◌/◌, ◌%◌, ◌^◌, ◌<◌, ◌≤◌, ◌==◌, ◌&&◌, nat_lt, nat_le, Bool, true, false, List, [], ◌∷◌, ◌++◌, arith, if◌then◌else◌}
use Rattle.std.specs.Prelude.{decimal}
use Rattle.std.specs.List.{list_all}
use Rattle.std.specs.Fmt.{digits, digits_onto, digit_glyph}
use Rattle.std.proofs.lemmas.Bool.{ltb-true, ltb-false, le-leb, lt-ltb, cases_Bool, ne_eqb, and_parts}
use Rattle.std.proofs.lemmas.Fmt.{decimal_is_IsNumeral_wide}
use Rattle.o2_world.specs.Text.{hex_digit, hex4}
use Rattle.o2_read_report.specs.Plain.{shown_number}
use Rattle.o2_read_report.proofs.Splits.{char}

-- Hexadecimal digits.

pub digit_forms : (d : ℕ) → ((d < 10) × (hex_digit d ≡ 48 + d)) ⊎ ((10 ≤ d) × (hex_digit d ≡ 55 + d))
digit_forms d = elim (cases_Bool (nat_lt d 10)) [
  | inl e ↦ inl (ltb-true d 10 e, rw e refl)
  | inr e ↦ inr (ltb-false d 10 e, rw e refl)
]

-- a digit isn't this mark: a line end, a blank, a colon, an equals sign
pub record IsNoMark (x : ℕ) : Type 0 where
  pub line_end : (x == 10) ≡ false
  pub blank : (x == 32) ≡ false
  pub colon : (x == 58) ≡ false
  pub equals : (x == 61) ≡ false

no_mark : (d x : ℕ) → ((d < 10) × (x ≡ 48 + d)) ⊎ ((10 ≤ d) × (x ≡ 55 + d)) → IsNoMark x
no_mark d x (inl p) = record {
  line_end = ne_eqb x 10 (λ e. omega (arith, p));
  blank = ne_eqb x 32 (λ e. omega (arith, p));
  colon = ne_eqb x 58 (λ e. omega (arith, p));
  equals = ne_eqb x 61 (λ e. omega (arith, p));
}
no_mark d x (inr p) = record {
  line_end = ne_eqb x 10 (λ e. omega (arith, p));
  blank = ne_eqb x 32 (λ e. omega (arith, p));
  colon = ne_eqb x 58 (λ e. omega (arith, p));
  equals = ne_eqb x 61 (λ e. omega (arith, p));
}

pub digit_no_mark : (d : ℕ) → IsNoMark (hex_digit d)
digit_no_mark d = no_mark d (hex_digit d) (digit_forms d)

abbrev pub value_of : ℕ → ℕ
value_of c = if nat_lt c 65 then c - 48 else c - 55

value_read : (d : ℕ) → value_of (hex_digit d) ≡ d
value_read d = by (hex_digit d) (digit_forms d)
  where
    small : (x : ℕ) (b : Bool) → nat_lt x 65 ≡ b → (d < 10) × (x ≡ 48 + d) → (if b then x - 48 else x - 55) ≡ d
    small x true e p = omega (arith, p)
    small x false e p = let l = ltb-false x 65 e in absurd (omega (arith, p, l))

    large : (x : ℕ) (b : Bool) → nat_lt x 65 ≡ b → (10 ≤ d) × (x ≡ 55 + d) → (if b then x - 48 else x - 55) ≡ d
    large x true e p = let l = ltb-true x 65 e in absurd (omega (arith, p, l))
    large x false e p = omega (arith, p)

    by : (x : ℕ) → ((d < 10) × (x ≡ 48 + d)) ⊎ ((10 ≤ d) × (x ≡ 55 + d)) → value_of x ≡ d
    by x (inl p) = small x (nat_lt x 65) refl p
    by x (inr p) = large x (nat_lt x 65) refl p

-- the number of the four digits that a text begins with
abbrev pub hex : List ℕ → ℕ
hex t = 4096 * value_of (char 0 t) + 256 * value_of (char 1 t) + 16 * value_of (char 2 t) + value_of (char 3 t)

-- over plain variables
four_digits : (n a b c d : ℕ) → a ≡ n / 4096 → b ≡ n / 256 % 16 → c ≡ n / 16 % 16 → d ≡ n % 16 → 4096 * a + 256 * b + 16 * c + d ≡ n
four_digits n a b c d p q r s = omega arith

pub hex_read : (n : ℕ) (y : List ℕ) → hex (hex4 n ++ y) ≡ n
unfolding hex4
hex_read n y = four_digits n _ _ _ _ (value_read (n / 4096)) (value_read (n / 256 % 16)) (value_read (n / 16 % 16)) (value_read (n % 16))

-- Decimal digits.

abbrev pub is_digit : ℕ → Bool
is_digit c = nat_le 48 c && nat_lt c 58

-- the digits that a text begins with, and what comes behind them
abbrev pub number : List ℕ → List ℕ
number [] = []
number (x ∷ xs) = if is_digit x then x ∷ number xs else []

abbrev pub after_number : List ℕ → List ℕ
after_number [] = []
after_number (x ∷ xs) = if is_digit x then after_number xs else x ∷ xs

both : (a b : Bool) → a ≡ true → b ≡ true → (a && b) ≡ true
both true b e f = f
both false b e f = absurd (cc)

glyph_is : (d : ℕ) → d < 10 → is_digit (digit_glyph false d) ≡ true
glyph_is d small = by (nat_lt d 10) refl
  where
    by : (b : Bool) → nat_lt d 10 ≡ b → is_digit (if b then 48 + d else 87 + d) ≡ true
    by true e = both _ _ (le-leb 48 (48 + d) (omega arith)) (lt-ltb (48 + d) 58 (omega (arith, small)))
    by false e = let l = ltb-false d 10 e in absurd (omega (arith, l, small))

either_list : (P : List ℕ → Type 0) (b : Bool) (xs ys : List ℕ) → P xs → P ys → P (if b then xs else ys)
either_list P true xs ys p q = p
either_list P false xs ys p q = q

onto_digits : (k n : ℕ) (acc : List ℕ) → list_all is_digit acc ≡ true → list_all is_digit (digits_onto k 10 false n acc) ≡ true
onto_digits zero n acc h = h
onto_digits (suc k) n acc h =
    let d = digit_glyph false (n % 10) in
    let more : list_all is_digit (d ∷ acc) ≡ true = both (is_digit d) (list_all is_digit acc) (glyph_is (n % 10) (omega arith)) h in
    either_list (λ (xs : List ℕ). list_all is_digit xs ≡ true) (n / 10 == 0) (d ∷ acc) (digits_onto k 10 false (n / 10) (d ∷ acc)) more (onto_digits k (n / 10) (d ∷ acc) more)

pub decimal_digits : (n : ℕ) → list_all is_digit (decimal n) ≡ true
unfolding digits
decimal_digits n = onto_digits 64 n [] refl

-- a text of digits begins with one
begins : (k n x : ℕ) (acc y : List ℕ) → is_digit x ≡ true → is_digit (char 0 (digits_onto k 10 false n (x ∷ acc) ++ y)) ≡ true
begins zero n x acc y h = h
begins (suc k) n x acc y h =
    let d = digit_glyph false (n % 10) in
    let g : is_digit d ≡ true = glyph_is (n % 10) (omega arith) in
    either_list (λ (xs : List ℕ). is_digit (char 0 (xs ++ y)) ≡ true) (n / 10 == 0) (d ∷ x ∷ acc) (digits_onto k 10 false (n / 10) (d ∷ x ∷ acc)) g (begins k (n / 10) d (x ∷ acc) y g)

pub decimal_begins : (n : ℕ) (y : List ℕ) → is_digit (char 0 (decimal n ++ y)) ≡ true
unfolding digits
decimal_begins n y =
    let d = digit_glyph false (n % 10) in
    let g : is_digit d ≡ true = glyph_is (n % 10) (omega arith) in
    either_list (λ (xs : List ℕ). is_digit (char 0 (xs ++ y)) ≡ true) (n / 10 == 0) (d ∷ []) (digits_onto 63 10 false (n / 10) (d ∷ [])) g (begins 63 (n / 10) d [] y g)

number_of : (ds : List ℕ) (c : ℕ) (y : List ℕ) → list_all is_digit ds ≡ true → is_digit c ≡ false → number (ds ++ c ∷ y) ≡ ds
number_of [] c y h stop = ap (λ (t : Bool). if t then c ∷ number y else []) stop
number_of (d ∷ ds) c y h stop =
    let p = and_parts _ _ h in
    ap (λ (t : Bool). if t then d ∷ number (ds ++ c ∷ y) else []) p.0 ∙ ap (λ (t : List ℕ). d ∷ t) (number_of ds c y p.1 stop)

after_digits : (ds : List ℕ) (c : ℕ) (y : List ℕ) → list_all is_digit ds ≡ true → is_digit c ≡ false → after_number (ds ++ c ∷ y) ≡ c ∷ y
after_digits [] c y h stop = ap (λ (t : Bool). if t then after_number y else c ∷ y) stop
after_digits (d ∷ ds) c y h stop =
    let p = and_parts _ _ h in
    ap (λ (t : Bool). if t then after_number (ds ++ c ∷ y) else d ∷ (ds ++ c ∷ y)) p.0 ∙ after_digits ds c y p.1 stop

pub number_read : (n c : ℕ) (y : List ℕ) → is_digit c ≡ false → number (decimal n ++ c ∷ y) ≡ decimal n
number_read n c y stop = number_of (decimal n) c y (decimal_digits n) stop

pub behind_number : (n c : ℕ) (y : List ℕ) → is_digit c ≡ false → after_number (decimal n ++ c ∷ y) ≡ c ∷ y
behind_number n c y stop = after_digits (decimal n) c y (decimal_digits n) stop

pub number_shown : (n : ℕ) → n < 10 ^ 64 → shown_number n ≡ n
number_shown n small = (decimal_is_IsNumeral_wide n small).1
