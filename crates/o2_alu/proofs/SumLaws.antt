-- The flags of sums and differences one by one, and the laws of the calls on them.
use Rattle.std.proofs.Common.{◌≡◌, ◌≢◌, ℕ, ◌+◌, ◌-◌, ◌*◌, ◌/◌, ◌%◌, ◌<◌, ◌≤◌, Bool, false, not, arith, refl, ◌∙◌, ◌==◌, nat_lt, nat_le, int_lt, inl, inr}
use Rattle.o2_isa.specs.declared.instr.Width.{Width}
use Rattle.o2_isa.specs.declared.instr.Width.TheVariants.{Byte, Word}
use Rattle.o2_isa.specs.declared.flags.Flag.{Flag}
use Rattle.o2_isa.specs.declared.flags.Flag.TheVariants.{Carry, Parity, Auxiliary, Zero, Sign, Overflow}
use Rattle.o2_isa.specs.Widths.{modulus, half, IsOfWidth, signed, signed_modulo, overflows}
use Rattle.o2_isa.specs.Flags.{is_set, is_even, with_szp, with_carries}
use Rattle.o2_isa.specs.Sums.{bit, sum_value, sum_carries, add_of, difference_value, difference_borrows, difference_overflows, sub_of, negate_of}
use Rattle.std.proofs.lemmas.Bool.{cases_lt}
use Rattle.std.proofs.lemmas.Nat.{div-add-mod', mod_below, div-mul-add}
use Rattle.o2_isa.specs.Shifts.{differs}
use Rattle.o2_isa.specs.Adjust.{aam_value, aad_value}
use Rattle.o2_alu.proofs.FlagLaws.{put_same, put_other}

pub szp_keeps : (w : Width) (r f : ℕ) (j : Flag) → j ≢ Sign → j ≢ Zero → j ≢ Parity → is_set (with_szp w r f) j ≡ is_set f j
unfolding with_szp
szp_keeps w r f j s z p = put_other _ Parity j _ p ∙ put_other _ Zero j _ z ∙ put_other _ Sign j _ s

pub szp_sign : (w : Width) (r f : ℕ) → is_set (with_szp w r f) Sign ≡ nat_le (half w) r
unfolding with_szp
szp_sign w r f = put_other _ Parity Sign _ (λ e. cc) ∙ put_other _ Zero Sign _ (λ e. cc) ∙ put_same f Sign _

pub szp_zero : (w : Width) (r f : ℕ) → is_set (with_szp w r f) Zero ≡ (r == 0)
unfolding with_szp
szp_zero w r f = put_other _ Parity Zero _ (λ e. cc) ∙ put_same _ Zero _

pub szp_parity : (w : Width) (r f : ℕ) → is_set (with_szp w r f) Parity ≡ is_even r
unfolding with_szp
szp_parity w r f = put_same _ Parity _

pub szp_carry : (w : Width) (r f : ℕ) → is_set (with_szp w r f) Carry ≡ is_set f Carry
szp_carry w r f = szp_keeps w r f Carry (λ e. cc) (λ e. cc) (λ e. cc)

pub carries_carry : (f : ℕ) (c a o : Bool) → is_set (with_carries f c a o) Carry ≡ c
unfolding with_carries
carries_carry f c a o = put_other _ Overflow Carry o (λ e. cc) ∙ put_other _ Auxiliary Carry a (λ e. cc) ∙ put_same f Carry c

pub carries_auxiliary : (f : ℕ) (c a o : Bool) → is_set (with_carries f c a o) Auxiliary ≡ a
unfolding with_carries
carries_auxiliary f c a o = put_other _ Overflow Auxiliary o (λ e. cc) ∙ put_same _ Auxiliary a

pub carries_overflow : (f : ℕ) (c a o : Bool) → is_set (with_carries f c a o) Overflow ≡ o
unfolding with_carries
carries_overflow f c a o = put_same _ Overflow o

pub carries_keep : (f : ℕ) (c a o : Bool) (j : Flag) → j ≢ Carry → j ≢ Auxiliary → j ≢ Overflow → is_set (with_carries f c a o) j ≡ is_set f j
unfolding with_carries
carries_keep f c a o j p q r = put_other _ Overflow j o r ∙ put_other _ Auxiliary j a q ∙ put_other f Carry j c p

-- ---- the carry of a sum, the borrow of a difference

pub add_carry : (w : Width) (a b : ℕ) (c : Bool) (f : ℕ) → is_set ((add_of w a b c f).1) Carry ≡ sum_carries w a b c
unfolding add_of
add_carry w a b c f = szp_carry w _ _ ∙ carries_carry f _ _ _

pub sub_borrow : (w : Width) (a b : ℕ) (c : Bool) (f : ℕ) → is_set ((sub_of w a b c f).1) Carry ≡ difference_borrows a b c
unfolding sub_of
sub_borrow w a b c f = szp_carry w _ _ ∙ carries_carry f _ _ _

-- ---- double words

two_sums : (al ah bl bh : ℕ) → al < 65536 → ah < 65536 → bl < 65536 → bh < 65536 →
    (sum_value Word al bl false + 65536 * sum_value Word ah bh (sum_carries Word al bl false) ≡ (al + 65536 * ah + (bl + 65536 * bh)) % (65536 * 65536))
    × (sum_carries Word ah bh (sum_carries Word al bl false) ≡ nat_le (65536 * 65536) (al + 65536 * ah + (bl + 65536 * bh)))
unfolding sum_value sum_carries bit
two_sums al ah bl bh p q r s = grind arith

two_differences : (al ah bl bh : ℕ) → al < 65536 → ah < 65536 → bl < 65536 → bh < 65536 →
    (difference_value Word al bl false + 65536 * difference_value Word ah bh (difference_borrows al bl false) ≡ (al + 65536 * ah + 65536 * 65536 - (bl + 65536 * bh)) % (65536 * 65536))
    × (difference_borrows ah bh (difference_borrows al bl false) ≡ nat_lt (al + 65536 * ah) (bl + 65536 * bh))
unfolding difference_value difference_borrows bit
two_differences al ah bl bh p q r s = grind arith

pub long_sum : (al ah bl bh f : ℕ) → al < 65536 → ah < 65536 → bl < 65536 → bh < 65536 →
    let low = add_of Word al bl false f in
    let high = add_of Word ah bh (is_set low.1 Carry) low.1 in
    (low.0 + 65536 * high.0 ≡ (al + 65536 * ah + (bl + 65536 * bh)) % (65536 * 65536))
    × (is_set high.1 Carry ≡ nat_le (65536 * 65536) (al + 65536 * ah + (bl + 65536 * bh)))
unfolding add_of
long_sum al ah bl bh f p q r s =
    let e = two_sums al ah bl bh p q r s in
    let carry = add_carry Word al bl false f in
    (rw carry (e.0), add_carry Word ah bh _ _ ∙ rw carry (e.1))

-- ---- NEG is 0 minus

neg_parts : (w : Width) (a : ℕ) → IsOfWidth w a →
    ((modulus w - a) % modulus w ≡ difference_value w 0 a false)
    × (not (a == 0) ≡ difference_borrows 0 a false)
    × (not (a % 16 == 0) ≡ difference_borrows (0 % 16) (a % 16) false)
unfolding difference_value difference_borrows bit
neg_parts Byte a h = grind arith
neg_parts Word a h = grind arith

neg_overflows : (w : Width) (a : ℕ) → IsOfWidth w a → (a == half w) ≡ difference_overflows w 0 a false
unfolding difference_overflows overflows signed signed_modulo bit
neg_overflows Byte a h = grind arith
neg_overflows Word a h = grind arith

pub neg_is_minus : (w : Width) (a f : ℕ) → IsOfWidth w a → negate_of w a f ≡ sub_of w 0 a false f
unfolding negate_of sub_of
neg_is_minus w a f h =
    let e = neg_parts w a h in
    let o = neg_overflows w a h in
    rw (e.0, e.1, e.2, o) refl

-- ---- what a comparison says

-- SF other than OF
differs_from : Width → ℕ → ℕ → Bool
differs_from w a b = differs (nat_le (half w) (difference_value w a b false)) (difference_overflows w a b false)

less_low_low : (w : Width) (a b : ℕ) → a < half w → b < half w → differs_from w a b ≡ int_lt (signed w a) (signed w b)
unfolding differs_from difference_value difference_overflows overflows signed signed_modulo bit
less_low_low Byte a b p q = grind arith
less_low_low Word a b p q = grind arith

less_low_high : (w : Width) (a b : ℕ) → a < half w → half w ≤ b → IsOfWidth w b → differs_from w a b ≡ int_lt (signed w a) (signed w b)
unfolding differs_from difference_value difference_overflows overflows signed signed_modulo bit
less_low_high Byte a b p q r = grind arith
less_low_high Word a b p q r = grind arith

less_high_low : (w : Width) (a b : ℕ) → half w ≤ a → IsOfWidth w a → b < half w → differs_from w a b ≡ int_lt (signed w a) (signed w b)
unfolding differs_from difference_value difference_overflows overflows signed signed_modulo bit
less_high_low Byte a b p q r = grind arith
less_high_low Word a b p q r = grind arith

less_high_high : (w : Width) (a b : ℕ) → half w ≤ a → IsOfWidth w a → half w ≤ b → IsOfWidth w b → differs_from w a b ≡ int_lt (signed w a) (signed w b)
unfolding differs_from difference_value difference_overflows overflows signed signed_modulo bit
less_high_high Byte a b p q r s = grind arith
less_high_high Word a b p q r s = grind arith

less_zero : (w : Width) (a b : ℕ) → IsOfWidth w a → IsOfWidth w b → (difference_value w a b false == 0) ≡ (a == b)
unfolding difference_value bit
less_zero Byte a b p q = grind arith
less_zero Word a b p q = grind arith

less_carry : (a b : ℕ) → difference_borrows a b false ≡ nat_lt a b
unfolding difference_borrows bit
less_carry a b = grind arith

less_sign : (w : Width) (a b : ℕ) → IsOfWidth w a → IsOfWidth w b → differs_from w a b ≡ int_lt (signed w a) (signed w b)
less_sign w a b p q =
    elim (cases_lt a (half w)) [
      | inl l ↦ elim (cases_lt b (half w)) [ inl m ↦ less_low_low w a b l m | inr m ↦ less_low_high w a b l m q ]
      | inr l ↦ elim (cases_lt b (half w)) [ inl m ↦ less_high_low w a b l p m | inr m ↦ less_high_high w a b l p m q ]
    ]

pub compared_carry : (w : Width) (a b f : ℕ) → is_set ((sub_of w a b false f).1) Carry ≡ nat_lt a b
compared_carry w a b f = sub_borrow w a b false f ∙ less_carry a b

pub compared_zero : (w : Width) (a b f : ℕ) → IsOfWidth w a → IsOfWidth w b → is_set ((sub_of w a b false f).1) Zero ≡ (a == b)
unfolding sub_of
compared_zero w a b f p q = szp_zero w _ _ ∙ less_zero w a b p q

pub compared_less : (w : Width) (a b f : ℕ) → IsOfWidth w a → IsOfWidth w b →
    differs (is_set ((sub_of w a b false f).1) Sign) (is_set ((sub_of w a b false f).1) Overflow) ≡ int_lt (signed w a) (signed w b)
unfolding sub_of differs_from
compared_less w a b f p q =
    let sign = szp_sign w (difference_value w a b false) (with_carries f (difference_borrows a b false) (difference_borrows (a % 16) (b % 16) false) (difference_overflows w a b false)) in
    let over = szp_keeps w (difference_value w a b false) _ Overflow (λ e. cc) (λ e. cc) (λ e. cc) ∙ carries_overflow f (difference_borrows a b false) (difference_borrows (a % 16) (b % 16) false) (difference_overflows w a b false) in
    rw (sign, over) (less_sign w a b p q)

pub long_difference : (al ah bl bh f : ℕ) → al < 65536 → ah < 65536 → bl < 65536 → bh < 65536 →
    let low = sub_of Word al bl false f in
    let high = sub_of Word ah bh (is_set low.1 Carry) low.1 in
    (low.0 + 65536 * high.0 ≡ (al + 65536 * ah + 65536 * 65536 - (bl + 65536 * bh)) % (65536 * 65536))
    × (is_set high.1 Carry ≡ nat_lt (al + 65536 * ah) (bl + 65536 * bh))
unfolding sub_of
long_difference al ah bl bh f p q r s =
    let e = two_differences al ah bl bh p q r s in
    let borrow = sub_borrow Word al bl false f in
    (rw borrow (e.0), sub_borrow Word ah bh _ _ ∙ rw borrow (e.1))

-- ---- decimal digits

pub aad_after_aam : (ax base : ℕ) → 0 < base → base < 256 → aad_value (aam_value ax base) base ≡ ax % 256
unfolding aad_value aam_value
aad_after_aam ax base h small =
    let sum = div-add-mod' (ax % 256) base in
    let rest = mod_below (ax % 256) base h in
    let high : (ax % 256 / base * 256 + ax % 256 % base) / 256 ≡ ax % 256 / base = div-mul-add (ax % 256 / base) 256 (ax % 256 % base) (omega arith) in
    let low : (ax % 256 / base * 256 + ax % 256 % base) % 256 ≡ ax % 256 % base = omega arith in
    rw (high, low) (omega arith)
