-- DAA and DAS after a sum and a difference of packed decimals.
use Rattle.std.proofs.Common.{◌≡◌, ℕ, ◌+◌, ◌-◌, ◌*◌, ◌/◌, ◌%◌, ◌<◌, ◌≤◌, Bool, true, false, arith, ◌∙◌, ap, ◌||◌, nat_lt, nat_le, Some}
use Rattle.std.specs.Prelude.{option_map}
use Rattle.std.proofs.lemmas.Bool.Decides.{nat_tests}
use Rattle.o2_isa.specs.declared.instr.Width.TheVariants.{Byte}
use Rattle.o2_isa.specs.declared.families.AdjustOp.TheVariants.{Daa, Das}
use Rattle.o2_isa.specs.declared.flags.Flag.TheVariants.{Carry, Auxiliary}
use Rattle.o2_isa.specs.Flags.{is_set}
use Rattle.o2_isa.specs.Sums.{bit, sum_value, sum_carries, sum_adjusts, add_of, difference_value, difference_borrows, sub_of}
use Rattle.o2_isa.specs.Adjust.{digit_adjusts, digits_adjust, n_where, daa_value, das_value, packed_flags, adjust_of}
use Rattle.o2_alu.specs.Decimal.{packed}
use Rattle.o2_alu.proofs.FlagLaws.{put_same}
use Rattle.o2_alu.proofs.SumLaws.{szp_keeps, szp_carry, carries_auxiliary, add_carry, sub_borrow}

add_auxiliary : (a b : ℕ) (c : Bool) (f : ℕ) → is_set ((add_of Byte a b c f).1) Auxiliary ≡ sum_adjusts a b c
unfolding add_of
add_auxiliary a b c f = szp_keeps Byte _ _ Auxiliary (λ e. cc) (λ e. cc) (λ e. cc) ∙ carries_auxiliary _ _ _ _

sub_auxiliary : (a b : ℕ) (c : Bool) (f : ℕ) → is_set ((sub_of Byte a b c f).1) Auxiliary ≡ difference_borrows (a % 16) (b % 16) c
unfolding sub_of
sub_auxiliary a b c f = szp_keeps Byte _ _ Auxiliary (λ e. cc) (λ e. cc) (λ e. cc) ∙ carries_auxiliary _ _ _ _

bit_below : (c : Bool) → bit c ≤ 1
unfolding bit
bit_below true = omega arith
bit_below false = omega arith

-- ---- sums: t tens and u units, which may be more than 9

sum_units : (u : ℕ) → u ≤ 19 → (nat_lt 9 (u % 16) || nat_le 16 u) ≡ nat_le 10 u
sum_units u h = grind (arith, nat_tests)

sum_tens : (t u : ℕ) → t ≤ 18 → u ≤ 19 → (nat_lt 0x99 ((16 * t + u) % 256) || nat_le 256 (16 * t + u)) ≡ nat_le 100 (10 * t + u)
sum_tens t u h k = grind (arith, nat_tests)

sum_digits : (t u : ℕ) → t ≤ 18 → u ≤ 19 → ((16 * t + u) % 256 + n_where (nat_le 10 u) 6 + n_where (nat_le 100 (10 * t + u)) 0x60) % 256 ≡ packed ((10 * t + u) % 100)
unfolding n_where
sum_digits t u h k = grind (arith, nat_tests)

sum_units_adjust : (al f u : ℕ) → al % 16 ≡ u % 16 → is_set f Auxiliary ≡ nat_le 16 u → u ≤ 19 → digit_adjusts al f ≡ nat_le 10 u
unfolding digit_adjusts
sum_units_adjust al f u e g h = rw (e, g) (sum_units u h)

sum_tens_adjust : (al f t u : ℕ) → al ≡ (16 * t + u) % 256 → is_set f Carry ≡ nat_le 256 (16 * t + u) → t ≤ 18 → u ≤ 19 → digits_adjust al f ≡ nat_le 100 (10 * t + u)
unfolding digits_adjust
sum_tens_adjust al f t u e g h k = rw (e, g) (sum_tens t u h k)

daa_digits : (ax t u : ℕ) (units tens : Bool) → ax % 256 ≡ (16 * t + u) % 256 → units ≡ nat_le 10 u → tens ≡ nat_le 100 (10 * t + u) → t ≤ 18 → u ≤ 19
    → daa_value ax units tens ≡ packed ((10 * t + u) % 100)
unfolding daa_value
daa_digits ax t u units tens e g f h k = rw (e, g, f) (sum_digits t u h k)

packed_carry : (al f : ℕ) (units tens : Bool) → is_set (packed_flags al units tens f) Carry ≡ tens
unfolding packed_flags
packed_carry al f units tens = szp_carry Byte al _ ∙ put_same _ Carry tens

-- the sum of the bytes, by tens and units
byte_sum : (a b : ℕ) (c : Bool) → sum_value Byte (packed a) (packed b) c ≡ (16 * (a / 10 + b / 10) + (a % 10 + b % 10 + bit c)) % 256
unfolding sum_value
byte_sum a b c = ap (λ (n : ℕ). n % 256) (omega arith)

byte_carry : (a b : ℕ) (c : Bool) (f : ℕ) → is_set ((add_of Byte (packed a) (packed b) c f).1) Carry ≡ nat_le 256 (16 * (a / 10 + b / 10) + (a % 10 + b % 10 + bit c))
unfolding sum_carries
byte_carry a b c f = add_carry Byte (packed a) (packed b) c f ∙ ap (λ (n : ℕ). nat_le 256 n) (omega arith)

byte_half : (a b : ℕ) (c : Bool) (f : ℕ) → is_set ((add_of Byte (packed a) (packed b) c f).1) Auxiliary ≡ nat_le 16 (a % 10 + b % 10 + bit c)
unfolding sum_adjusts
byte_half a b c f = add_auxiliary (packed a) (packed b) c f ∙ ap (λ (n : ℕ). nat_le 16 n) (omega arith)

pub daa_after_sum : (a b : ℕ) (c : Bool) (ah f : ℕ) → a < 100 → b < 100 →
    let sum = add_of Byte (packed a) (packed b) c f in
    let r = adjust_of Daa (256 * ah + sum.0) 0 sum.1 in
    (option_map (λ x. x.0) r ≡ Some (256 * ah + packed ((a + b + bit c) % 100)))
    × (option_map (λ x. is_set x.1 Carry) r ≡ Some (nat_le 100 (a + b + bit c)))
unfolding add_of adjust_of
daa_after_sum a b c ah f p q =
    let t = a / 10 + b / 10 in
    let u = a % 10 + b % 10 + bit c in
    let sum = add_of Byte (packed a) (packed b) c f in
    let ax = 256 * ah + sum.0 in
    let few : u ≤ 19 = omega (arith, bit_below c) in
    let low : t ≤ 18 = omega arith in
    let total : 10 * t + u ≡ a + b + bit c = omega arith in
    let value : sum.0 ≡ (16 * t + u) % 256 = byte_sum a b c in
    let al : ax % 256 ≡ (16 * t + u) % 256 = omega (arith, value) in
    let high : ax / 256 ≡ ah = omega (arith, value) in
    let half : (ax % 256) % 16 ≡ u % 16 = omega (arith, al) in
    let units : digit_adjusts (ax % 256) sum.1 ≡ nat_le 10 u = sum_units_adjust (ax % 256) sum.1 u half (byte_half a b c f) few in
    let tens : digits_adjust (ax % 256) sum.1 ≡ nat_le 100 (10 * t + u) = sum_tens_adjust (ax % 256) sum.1 t u al (byte_carry a b c f) low few in
    let digits = daa_digits ax t u (digit_adjusts (ax % 256) sum.1) (digits_adjust (ax % 256) sum.1) al units tens low few in
    let result : ax / 256 * 256 + daa_value ax (digit_adjusts (ax % 256) sum.1) (digits_adjust (ax % 256) sum.1) ≡ 256 * ah + packed ((a + b + bit c) % 100) =
    ap (λ (n : ℕ). n * 256 + daa_value ax (digit_adjusts (ax % 256) sum.1) (digits_adjust (ax % 256) sum.1)) high
    ∙ ap (λ (n : ℕ). ah * 256 + n) (digits ∙ ap (λ (n : ℕ). packed (n % 100)) total)
    ∙ ap (λ (n : ℕ). n + packed ((a + b + bit c) % 100)) (omega arith) in (
      ap (λ (n : ℕ). Some n) result,
      ap (λ (x : Bool). Some x) (packed_carry _ sum.1 _ _ ∙ tens ∙ ap (λ (n : ℕ). nat_le 100 n) total),
    )

-- ---- differences

difference_units : (p q r s e : ℕ) → p ≤ 9 → q ≤ 9 → r ≤ 9 → s ≤ 9 → e ≤ 1
    → (nat_lt 9 ((16 * p + q + 256 - (16 * r + s) - e) % 256 % 16) || nat_lt q (s + e)) ≡ nat_lt q (s + e)
difference_units p q r s e a b c d h = grind (arith, nat_tests)

difference_tens : (p q r s e : ℕ) → p ≤ 9 → q ≤ 9 → r ≤ 9 → s ≤ 9 → e ≤ 1
    → (nat_lt 0x99 ((16 * p + q + 256 - (16 * r + s) - e) % 256) || nat_lt (16 * p + q) (16 * r + s + e)) ≡ nat_lt (10 * p + q) (10 * r + s + e)
difference_tens p q r s e a b c d h = grind (arith, nat_tests)

difference_digits : (p q r s e : ℕ) → p ≤ 9 → q ≤ 9 → r ≤ 9 → s ≤ 9 → e ≤ 1
    → ((16 * p + q + 256 - (16 * r + s) - e) % 256 + 256 - n_where (nat_lt q (s + e)) 6 - n_where (nat_lt (10 * p + q) (10 * r + s + e)) 0x60) % 256
    ≡ packed ((10 * p + q + 100 - (10 * r + s) - e) % 100)
unfolding n_where
difference_digits p q r s e a b c d h = grind (arith, nat_tests)

difference_units_adjust : (al f p q r s e : ℕ) → al ≡ (16 * p + q + 256 - (16 * r + s) - e) % 256 → is_set f Auxiliary ≡ nat_lt q (s + e)
    → p ≤ 9 → q ≤ 9 → r ≤ 9 → s ≤ 9 → e ≤ 1 → digit_adjusts al f ≡ nat_lt q (s + e)
unfolding digit_adjusts
difference_units_adjust al f p q r s e is half a b c d h = rw (is, half) (difference_units p q r s e a b c d h)

difference_tens_adjust : (al f p q r s e : ℕ) → al ≡ (16 * p + q + 256 - (16 * r + s) - e) % 256 → is_set f Carry ≡ nat_lt (16 * p + q) (16 * r + s + e)
    → p ≤ 9 → q ≤ 9 → r ≤ 9 → s ≤ 9 → e ≤ 1 → digits_adjust al f ≡ nat_lt (10 * p + q) (10 * r + s + e)
unfolding digits_adjust
difference_tens_adjust al f p q r s e is carry a b c d h = rw (is, carry) (difference_tens p q r s e a b c d h)

das_digits : (ax p q r s e : ℕ) (units tens : Bool) → ax % 256 ≡ (16 * p + q + 256 - (16 * r + s) - e) % 256 → units ≡ nat_lt q (s + e) → tens ≡ nat_lt (10 * p + q) (10 * r + s + e)
    → p ≤ 9 → q ≤ 9 → r ≤ 9 → s ≤ 9 → e ≤ 1 → das_value ax units tens ≡ packed ((10 * p + q + 100 - (10 * r + s) - e) % 100)
unfolding das_value
das_digits ax p q r s e units tens is g f a b c d h = rw (is, g, f) (difference_digits p q r s e a b c d h)

byte_difference : (a b : ℕ) (c : Bool) → difference_value Byte (packed a) (packed b) c ≡ (16 * (a / 10) + a % 10 + 256 - (16 * (b / 10) + b % 10) - bit c) % 256
unfolding difference_value
byte_difference a b c = ap (λ (n : ℕ). n % 256) (omega arith)

byte_borrow : (a b : ℕ) (c : Bool) (f : ℕ) → is_set ((sub_of Byte (packed a) (packed b) c f).1) Carry ≡ nat_lt (16 * (a / 10) + a % 10) (16 * (b / 10) + b % 10 + bit c)
unfolding difference_borrows
byte_borrow a b c f =
    let left : packed a ≡ 16 * (a / 10) + a % 10 = omega arith in
    let right : packed b + bit c ≡ 16 * (b / 10) + b % 10 + bit c = omega arith in
    sub_borrow Byte (packed a) (packed b) c f ∙ ap (λ (n : ℕ). nat_lt n (packed b + bit c)) left ∙ ap (λ (n : ℕ). nat_lt (16 * (a / 10) + a % 10) n) right

byte_half_borrow : (a b : ℕ) (c : Bool) (f : ℕ) → is_set ((sub_of Byte (packed a) (packed b) c f).1) Auxiliary ≡ nat_lt (a % 10) (b % 10 + bit c)
unfolding difference_borrows
byte_half_borrow a b c f =
    let left : packed a % 16 ≡ a % 10 = omega arith in
    let right : packed b % 16 + bit c ≡ b % 10 + bit c = omega arith in
    sub_auxiliary (packed a) (packed b) c f ∙ ap (λ (n : ℕ). nat_lt n (packed b % 16 + bit c)) left ∙ ap (λ (n : ℕ). nat_lt (a % 10) n) right

pub das_after_difference : (a b : ℕ) (c : Bool) (ah f : ℕ) → a < 100 → b < 100 →
    let difference = sub_of Byte (packed a) (packed b) c f in
    let r = adjust_of Das (256 * ah + difference.0) 0 difference.1 in
    (option_map (λ x. x.0) r ≡ Some (256 * ah + packed ((a + 100 - b - bit c) % 100)))
    × (option_map (λ x. is_set x.1 Carry) r ≡ Some (nat_lt a (b + bit c)))
unfolding sub_of adjust_of
das_after_difference a b c ah f below under =
    let p = a / 10 in
    let q = a % 10 in
    let r = b / 10 in
    let s = b % 10 in
    let e = bit c in
    let difference = sub_of Byte (packed a) (packed b) c f in
    let ax = 256 * ah + difference.0 in
    let p9 : p ≤ 9 = omega arith in
    let q9 : q ≤ 9 = omega arith in
    let r9 : r ≤ 9 = omega arith in
    let s9 : s ≤ 9 = omega arith in
    let e1 : e ≤ 1 = bit_below c in
    let left : 10 * p + q ≡ a = omega arith in
    let right : 10 * r + s ≡ b = omega arith in
    let value : difference.0 ≡ (16 * p + q + 256 - (16 * r + s) - e) % 256 = byte_difference a b c in
    let al : ax % 256 ≡ (16 * p + q + 256 - (16 * r + s) - e) % 256 = omega (arith, value) in
    let high : ax / 256 ≡ ah = omega (arith, value) in
    let units : digit_adjusts (ax % 256) difference.1 ≡ nat_lt q (s + e) = difference_units_adjust (ax % 256) difference.1 p q r s e al (byte_half_borrow a b c f) p9 q9 r9 s9 e1 in
    let tens : digits_adjust (ax % 256) difference.1 ≡ nat_lt (10 * p + q) (10 * r + s + e) = difference_tens_adjust (ax % 256) difference.1 p q r s e al (byte_borrow a b c f) p9 q9 r9 s9 e1 in
    let digits = das_digits ax p q r s e (digit_adjusts (ax % 256) difference.1) (digits_adjust (ax % 256) difference.1) al units tens p9 q9 r9 s9 e1 in
    let same : packed ((10 * p + q + 100 - (10 * r + s) - e) % 100) ≡ packed ((a + 100 - b - bit c) % 100) = ap (λ (n : ℕ). packed (n % 100)) (omega arith) in
    let result : ax / 256 * 256 + das_value ax (digit_adjusts (ax % 256) difference.1) (digits_adjust (ax % 256) difference.1) ≡ 256 * ah + packed ((a + 100 - b - bit c) % 100) =
    ap (λ (n : ℕ). n * 256 + das_value ax (digit_adjusts (ax % 256) difference.1) (digits_adjust (ax % 256) difference.1)) high
    ∙ ap (λ (n : ℕ). ah * 256 + n) (digits ∙ same)
    ∙ ap (λ (n : ℕ). n + packed ((a + 100 - b - bit c) % 100)) (omega arith) in (
      ap (λ (n : ℕ). Some n) result,
      ap (λ (x : Bool). Some x) (packed_carry _ difference.1 _ _ ∙ tens ∙ ap (λ (n : ℕ). nat_lt n (10 * r + s + e)) left ∙ ap (λ (n : ℕ). nat_lt a (n + e)) right),
    )
