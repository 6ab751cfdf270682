-- Rotations in closed form.
use Rattle.std.proofs.Common.{◌≡◌, ℕ, zero, suc, ◌+◌, ◌-◌, ◌*◌, ◌/◌, ◌%◌, ◌^◌, ◌<◌, ◌≤◌, Bool, true, false, if◌then◌else◌, arith, refl, ap, sym, ◌∙◌, inl, inr, nat_le, ◌⊎◌, mul_assoc}
use Rattle.std.proofs.Math.Nat.{div-div-eq-div-mul, pow-suc, div-le_self, pow-le-pow_right}
use Rattle.std.proofs.lemmas.Nat.{mul-mod_first, mul-le}
use Rattle.std.proofs.lemmas.Bool.{cases_lt}
use Rattle.o2_isa.specs.declared.instr.Width.{Width}
use Rattle.o2_isa.specs.declared.instr.Width.TheVariants.{Byte, Word}
use Rattle.o2_isa.specs.declared.families.ShiftOp.TheVariants.{Rol, Ror, Shl, Shr, Sar}
use Rattle.o2_isa.specs.Widths.{modulus, half, IsOfWidth}
use Rattle.o2_isa.specs.Sums.{bit}
use Rattle.o2_alu.specs.AtOnce.{bits, rolled, unrolled, lowered}
use Rattle.o2_isa.specs.Shifts.{top, low, repeated}

-- one bit more, at each count

roll_byte : (k a : ℕ) → k < 8 → a < 256 → rolled Byte k a * 2 % 256 + bit (nat_le 128 (rolled Byte k a)) ≡ rolled Byte (suc k) a
unfolding bit
roll_byte zero a l h = grind arith
roll_byte (suc zero) a l h = grind arith
roll_byte (suc (suc zero)) a l h = grind arith
roll_byte (suc (suc (suc zero))) a l h = grind arith
roll_byte (suc (suc (suc (suc zero)))) a l h = grind arith
roll_byte (suc (suc (suc (suc (suc zero))))) a l h = grind arith
roll_byte (suc (suc (suc (suc (suc (suc zero)))))) a l h = grind arith
roll_byte (suc (suc (suc (suc (suc (suc (suc zero))))))) a l h = grind arith
roll_byte (suc (suc (suc (suc (suc (suc (suc (suc k)))))))) a l h = absurd (omega arith)

unroll_byte : (k a : ℕ) → k < 8 → a < 256 → unrolled Byte k a / 2 + (if low (unrolled Byte k a) then 128 else 0) ≡ unrolled Byte (suc k) a
unroll_byte zero a l h = grind arith
unroll_byte (suc zero) a l h = grind arith
unroll_byte (suc (suc zero)) a l h = grind arith
unroll_byte (suc (suc (suc zero))) a l h = grind arith
unroll_byte (suc (suc (suc (suc zero)))) a l h = grind arith
unroll_byte (suc (suc (suc (suc (suc zero))))) a l h = grind arith
unroll_byte (suc (suc (suc (suc (suc (suc zero)))))) a l h = grind arith
unroll_byte (suc (suc (suc (suc (suc (suc (suc zero))))))) a l h = grind arith
unroll_byte (suc (suc (suc (suc (suc (suc (suc (suc k)))))))) a l h = absurd (omega arith)

roll_word : (k a : ℕ) → k < 16 → a < 65536 → rolled Word k a * 2 % 65536 + bit (nat_le 32768 (rolled Word k a)) ≡ rolled Word (suc k) a
unfolding bit
roll_word zero a l h = grind arith
roll_word (suc zero) a l h = grind arith
roll_word (suc (suc zero)) a l h = grind arith
roll_word (suc (suc (suc zero))) a l h = grind arith
roll_word (suc (suc (suc (suc zero)))) a l h = grind arith
roll_word (suc (suc (suc (suc (suc zero))))) a l h = grind arith
roll_word (suc (suc (suc (suc (suc (suc zero)))))) a l h = grind arith
roll_word (suc (suc (suc (suc (suc (suc (suc zero))))))) a l h = grind arith
roll_word (suc (suc (suc (suc (suc (suc (suc (suc zero)))))))) a l h = grind arith
roll_word (suc (suc (suc (suc (suc (suc (suc (suc (suc zero))))))))) a l h = grind arith
roll_word (suc (suc (suc (suc (suc (suc (suc (suc (suc (suc zero)))))))))) a l h = grind arith
roll_word (suc (suc (suc (suc (suc (suc (suc (suc (suc (suc (suc zero))))))))))) a l h = grind arith
roll_word (suc (suc (suc (suc (suc (suc (suc (suc (suc (suc (suc (suc zero)))))))))))) a l h = grind arith
roll_word (suc (suc (suc (suc (suc (suc (suc (suc (suc (suc (suc (suc (suc zero))))))))))))) a l h = grind arith
roll_word (suc (suc (suc (suc (suc (suc (suc (suc (suc (suc (suc (suc (suc (suc zero)))))))))))))) a l h = grind arith
roll_word (suc (suc (suc (suc (suc (suc (suc (suc (suc (suc (suc (suc (suc (suc (suc zero))))))))))))))) a l h = grind arith
roll_word (suc (suc (suc (suc (suc (suc (suc (suc (suc (suc (suc (suc (suc (suc (suc (suc k)))))))))))))))) a l h = absurd (omega arith)

unroll_word : (k a : ℕ) → k < 16 → a < 65536 → unrolled Word k a / 2 + (if low (unrolled Word k a) then 32768 else 0) ≡ unrolled Word (suc k) a
unroll_word zero a l h = grind arith
unroll_word (suc zero) a l h = grind arith
unroll_word (suc (suc zero)) a l h = grind arith
unroll_word (suc (suc (suc zero))) a l h = grind arith
unroll_word (suc (suc (suc (suc zero)))) a l h = grind arith
unroll_word (suc (suc (suc (suc (suc zero))))) a l h = grind arith
unroll_word (suc (suc (suc (suc (suc (suc zero)))))) a l h = grind arith
unroll_word (suc (suc (suc (suc (suc (suc (suc zero))))))) a l h = grind arith
unroll_word (suc (suc (suc (suc (suc (suc (suc (suc zero)))))))) a l h = grind arith
unroll_word (suc (suc (suc (suc (suc (suc (suc (suc (suc zero))))))))) a l h = grind arith
unroll_word (suc (suc (suc (suc (suc (suc (suc (suc (suc (suc zero)))))))))) a l h = grind arith
unroll_word (suc (suc (suc (suc (suc (suc (suc (suc (suc (suc (suc zero))))))))))) a l h = grind arith
unroll_word (suc (suc (suc (suc (suc (suc (suc (suc (suc (suc (suc (suc zero)))))))))))) a l h = grind arith
unroll_word (suc (suc (suc (suc (suc (suc (suc (suc (suc (suc (suc (suc (suc zero))))))))))))) a l h = grind arith
unroll_word (suc (suc (suc (suc (suc (suc (suc (suc (suc (suc (suc (suc (suc (suc zero)))))))))))))) a l h = grind arith
unroll_word (suc (suc (suc (suc (suc (suc (suc (suc (suc (suc (suc (suc (suc (suc (suc zero))))))))))))))) a l h = grind arith
unroll_word (suc (suc (suc (suc (suc (suc (suc (suc (suc (suc (suc (suc (suc (suc (suc (suc k)))))))))))))))) a l h = absurd (omega arith)

roll : (w : Width) (k a : ℕ) → k < bits w → IsOfWidth w a → rolled w k a * 2 % modulus w + bit (top w (rolled w k a)) ≡ rolled w (suc k) a
roll Byte k a l h = roll_byte k a l h
roll Word k a l h = roll_word k a l h

unroll : (w : Width) (k a : ℕ) → k < bits w → IsOfWidth w a → unrolled w k a / 2 + (if low (unrolled w k a) then half w else 0) ≡ unrolled w (suc k) a
unroll Byte k a l h = unroll_byte k a l h
unroll Word k a l h = unroll_word k a l h

-- ---- any count: the count is modulo the width

below_bits : (w : Width) (n : ℕ) → n % bits w < bits w
below_bits Byte n = omega arith
below_bits Word n = omega arith

next_count : (w : Width) (n : ℕ) → (suc n % bits w ≡ suc (n % bits w)) ⊎ ((suc n % bits w ≡ 0) × (suc (n % bits w) ≡ bits w))
next_count Byte n = elim (cases_lt (suc (n % 8)) 8) [ inl l ↦ inl (omega arith) | inr l ↦ inr (omega arith, omega arith) ]
next_count Word n = elim (cases_lt (suc (n % 16)) 16) [ inl l ↦ inl (omega arith) | inr l ↦ inr (omega arith, omega arith) ]

full_roll : (w : Width) (a : ℕ) → IsOfWidth w a → rolled w (bits w) a ≡ rolled w 0 a
full_roll Byte a h = omega arith
full_roll Word a h = omega arith

full_unroll : (w : Width) (a : ℕ) → IsOfWidth w a → unrolled w (bits w) a ≡ unrolled w 0 a
full_unroll Byte a h = omega arith
full_unroll Word a h = omega arith

no_roll : (w : Width) (a : ℕ) → IsOfWidth w a → a ≡ rolled w (0 % bits w) a
no_roll Byte a h = omega arith
no_roll Word a h = omega arith

no_unroll : (w : Width) (a : ℕ) → IsOfWidth w a → a ≡ unrolled w (0 % bits w) a
no_unroll Byte a h = omega arith
no_unroll Word a h = omega arith

after_roll : (w : Width) (n a : ℕ) → IsOfWidth w a → rolled w (suc (n % bits w)) a ≡ rolled w (suc n % bits w) a
after_roll w n a h = elim (next_count w n) [
  | inl e ↦ rw e refl
  | inr e ↦ rw (e.0, e.1) (full_roll w a h)
]

after_unroll : (w : Width) (n a : ℕ) → IsOfWidth w a → unrolled w (suc (n % bits w)) a ≡ unrolled w (suc n % bits w) a
after_unroll w n a h = elim (next_count w n) [
  | inl e ↦ rw e refl
  | inr e ↦ rw (e.0, e.1) (full_unroll w a h)
]

pub rol_value : (w : Width) (n a : ℕ) (c : Bool) → IsOfWidth w a → (repeated n Rol w (a, c)).0 ≡ rolled w (n % bits w) a
rol_value w zero a c h = no_roll w a h
rol_value w (suc n) a c h =
    ap (λ v. v * 2 % modulus w + bit (top w v)) (rol_value w n a c h) ∙ roll w (n % bits w) a (below_bits w n) h ∙ after_roll w n a h

pub ror_value : (w : Width) (n a : ℕ) (c : Bool) → IsOfWidth w a → (repeated n Ror w (a, c)).0 ≡ unrolled w (n % bits w) a
ror_value w zero a c h = no_unroll w a h
ror_value w (suc n) a c h =
    ap (λ v. v / 2 + (if low v then half w else 0)) (ror_value w n a c h) ∙ unroll w (n % bits w) a (below_bits w n) h ∙ after_unroll w n a h

-- ---- shifts

no_shift : (w : Width) (a : ℕ) → IsOfWidth w a → a ≡ a * 2 ^ 0 % modulus w
no_shift Byte a h = omega arith
no_shift Word a h = omega arith

one_more : (a n : ℕ) → a * 2 ^ n * 2 ≡ a * 2 ^ suc n
one_more a n = mul_assoc a (2 ^ n) 2 ∙ ap (λ v. a * v) (sym (pow-suc 2 n))

pub shl_value : (w : Width) (n a : ℕ) (c : Bool) → IsOfWidth w a → (repeated n Shl w (a, c)).0 ≡ a * 2 ^ n % modulus w
shl_value w zero a c h = no_shift w a h
shl_value w (suc n) a c h =
    ap (λ v. v * 2 % modulus w) (shl_value w n a c h) ∙ mul-mod_first (a * 2 ^ n) 2 (modulus w) ∙ ap (λ v. v % modulus w) (one_more a n)

pub shr_value : (w : Width) (n a : ℕ) (c : Bool) → (repeated n Shr w (a, c)).0 ≡ a / 2 ^ n
shr_value w zero a c = omega arith
shr_value w (suc n) a c =
    ap (λ v. v / 2) (shr_value w n a c) ∙ div-div-eq-div-mul a (2 ^ n) 2 ∙ ap (λ v. a / v) (sym (pow-suc 2 n))

positive_step : (w : Width) (u : ℕ) → u < half w → u / 2 + (if top w u then half w else 0) ≡ u / 2
positive_step Byte u h = grind arith
positive_step Word u h = grind arith

negative_step : (w : Width) (u : ℕ) → u < half w → (modulus w - 1 - u) / 2 + (if top w (modulus w - 1 - u) then half w else 0) ≡ modulus w - 1 - u / 2
negative_step Byte u h = grind arith
negative_step Word u h = grind arith

halved_again : (a n : ℕ) → a / 2 ^ n / 2 ≡ a / 2 ^ suc n
halved_again a n = div-div-eq-div-mul a (2 ^ n) 2 ∙ ap (λ v. a / v) (sym (pow-suc 2 n))

sar_positive : (w : Width) (n a : ℕ) (c : Bool) → a < half w → (repeated n Sar w (a, c)).0 ≡ a / 2 ^ n
sar_positive w zero a c h = omega arith
sar_positive w (suc n) a c h =
    ap (λ v. v / 2 + (if top w v then half w else 0)) (sar_positive w n a c h)
    ∙ positive_step w (a / 2 ^ n) (omega (arith, div-le_self a (2 ^ n))) ∙ halved_again a n

sar_negative : (w : Width) (n b : ℕ) (c : Bool) → b < half w → (repeated n Sar w (modulus w - 1 - b, c)).0 ≡ modulus w - 1 - b / 2 ^ n
sar_negative w zero b c h = omega arith
sar_negative w (suc n) b c h =
    ap (λ v. v / 2 + (if top w v then half w else 0)) (sar_negative w n b c h)
    ∙ negative_step w (b / 2 ^ n) (omega (arith, div-le_self b (2 ^ n))) ∙ ap (λ v. modulus w - 1 - v) (halved_again b n)

complement_twice : (w : Width) (a : ℕ) → IsOfWidth w a → modulus w - 1 - (modulus w - 1 - a) ≡ a
complement_twice Byte a h = omega arith
complement_twice Word a h = omega arith

complement_small : (w : Width) (a : ℕ) → half w ≤ a → modulus w - 1 - a < half w
complement_small Byte a h = omega arith
complement_small Word a h = omega arith

top_low : (w : Width) (a : ℕ) → a < half w → top w a ≡ false
top_low w a h = grind arith

top_high : (w : Width) (a : ℕ) → half w ≤ a → top w a ≡ true
top_high w a h = grind arith

pub sar_value : (w : Width) (n a : ℕ) (c : Bool) → IsOfWidth w a → (repeated n Sar w (a, c)).0 ≡ lowered w n a
sar_value w n a c h = elim (cases_lt a (half w)) [
  | inl l ↦ rw (top_low w a l) (sar_positive w n a c l)
  | inr l ↦ rw (top_high w a l)
      (ap (λ v. (repeated n Sar w (v, c)).0) (sym (complement_twice w a h)) ∙ sar_negative w n (modulus w - 1 - a) c (complement_small w a l))
]

rolled_byte : (k a : ℕ) → k < 8 → a < 256 → rolled Byte k a < 256
rolled_byte zero a l h = omega arith
rolled_byte (suc zero) a l h = omega arith
rolled_byte (suc (suc zero)) a l h = omega arith
rolled_byte (suc (suc (suc zero))) a l h = omega arith
rolled_byte (suc (suc (suc (suc zero)))) a l h = omega arith
rolled_byte (suc (suc (suc (suc (suc zero))))) a l h = omega arith
rolled_byte (suc (suc (suc (suc (suc (suc zero)))))) a l h = omega arith
rolled_byte (suc (suc (suc (suc (suc (suc (suc zero))))))) a l h = omega arith
rolled_byte (suc (suc (suc (suc (suc (suc (suc (suc k)))))))) a l h = absurd (omega arith)

unrolled_byte : (k a : ℕ) → k < 8 → a < 256 → unrolled Byte k a < 256
unrolled_byte zero a l h = omega arith
unrolled_byte (suc zero) a l h = omega arith
unrolled_byte (suc (suc zero)) a l h = omega arith
unrolled_byte (suc (suc (suc zero))) a l h = omega arith
unrolled_byte (suc (suc (suc (suc zero)))) a l h = omega arith
unrolled_byte (suc (suc (suc (suc (suc zero))))) a l h = omega arith
unrolled_byte (suc (suc (suc (suc (suc (suc zero)))))) a l h = omega arith
unrolled_byte (suc (suc (suc (suc (suc (suc (suc zero))))))) a l h = omega arith
unrolled_byte (suc (suc (suc (suc (suc (suc (suc (suc k)))))))) a l h = absurd (omega arith)

rolled_word : (k a : ℕ) → k < 16 → a < 65536 → rolled Word k a < 65536
rolled_word zero a l h = omega arith
rolled_word (suc zero) a l h = omega arith
rolled_word (suc (suc zero)) a l h = omega arith
rolled_word (suc (suc (suc zero))) a l h = omega arith
rolled_word (suc (suc (suc (suc zero)))) a l h = omega arith
rolled_word (suc (suc (suc (suc (suc zero))))) a l h = omega arith
rolled_word (suc (suc (suc (suc (suc (suc zero)))))) a l h = omega arith
rolled_word (suc (suc (suc (suc (suc (suc (suc zero))))))) a l h = omega arith
rolled_word (suc (suc (suc (suc (suc (suc (suc (suc zero)))))))) a l h = omega arith
rolled_word (suc (suc (suc (suc (suc (suc (suc (suc (suc zero))))))))) a l h = omega arith
rolled_word (suc (suc (suc (suc (suc (suc (suc (suc (suc (suc zero)))))))))) a l h = omega arith
rolled_word (suc (suc (suc (suc (suc (suc (suc (suc (suc (suc (suc zero))))))))))) a l h = omega arith
rolled_word (suc (suc (suc (suc (suc (suc (suc (suc (suc (suc (suc (suc zero)))))))))))) a l h = omega arith
rolled_word (suc (suc (suc (suc (suc (suc (suc (suc (suc (suc (suc (suc (suc zero))))))))))))) a l h = omega arith
rolled_word (suc (suc (suc (suc (suc (suc (suc (suc (suc (suc (suc (suc (suc (suc zero)))))))))))))) a l h = omega arith
rolled_word (suc (suc (suc (suc (suc (suc (suc (suc (suc (suc (suc (suc (suc (suc (suc zero))))))))))))))) a l h = omega arith
rolled_word (suc (suc (suc (suc (suc (suc (suc (suc (suc (suc (suc (suc (suc (suc (suc (suc k)))))))))))))))) a l h = absurd (omega arith)

unrolled_word : (k a : ℕ) → k < 16 → a < 65536 → unrolled Word k a < 65536
unrolled_word zero a l h = omega arith
unrolled_word (suc zero) a l h = omega arith
unrolled_word (suc (suc zero)) a l h = omega arith
unrolled_word (suc (suc (suc zero))) a l h = omega arith
unrolled_word (suc (suc (suc (suc zero)))) a l h = omega arith
unrolled_word (suc (suc (suc (suc (suc zero))))) a l h = omega arith
unrolled_word (suc (suc (suc (suc (suc (suc zero)))))) a l h = omega arith
unrolled_word (suc (suc (suc (suc (suc (suc (suc zero))))))) a l h = omega arith
unrolled_word (suc (suc (suc (suc (suc (suc (suc (suc zero)))))))) a l h = omega arith
unrolled_word (suc (suc (suc (suc (suc (suc (suc (suc (suc zero))))))))) a l h = omega arith
unrolled_word (suc (suc (suc (suc (suc (suc (suc (suc (suc (suc zero)))))))))) a l h = omega arith
unrolled_word (suc (suc (suc (suc (suc (suc (suc (suc (suc (suc (suc zero))))))))))) a l h = omega arith
unrolled_word (suc (suc (suc (suc (suc (suc (suc (suc (suc (suc (suc (suc zero)))))))))))) a l h = omega arith
unrolled_word (suc (suc (suc (suc (suc (suc (suc (suc (suc (suc (suc (suc (suc zero))))))))))))) a l h = omega arith
unrolled_word (suc (suc (suc (suc (suc (suc (suc (suc (suc (suc (suc (suc (suc (suc zero)))))))))))))) a l h = omega arith
unrolled_word (suc (suc (suc (suc (suc (suc (suc (suc (suc (suc (suc (suc (suc (suc (suc zero))))))))))))))) a l h = omega arith
unrolled_word (suc (suc (suc (suc (suc (suc (suc (suc (suc (suc (suc (suc (suc (suc (suc (suc k)))))))))))))))) a l h = absurd (omega arith)

pub rolled_small : (w : Width) (k a : ℕ) → k < bits w → IsOfWidth w a → (rolled w k a < 2 ^ 16) × (rolled w k a < modulus w)
rolled_small Byte k a l h = (omega (arith, rolled_byte k a l h), rolled_byte k a l h)
rolled_small Word k a l h = (rolled_word k a l h, rolled_word k a l h)

pub unrolled_small : (w : Width) (k a : ℕ) → k < bits w → IsOfWidth w a → (unrolled w k a < 2 ^ 16) × (unrolled w k a < modulus w)
unrolled_small Byte k a l h = (omega (arith, unrolled_byte k a l h), unrolled_byte k a l h)
unrolled_small Word k a l h = (unrolled_word k a l h, unrolled_word k a l h)

-- a word that goes up by fewer than 32 bits
pub raised_small : (x k : ℕ) → x < 2 ^ 17 → k < 32 → x * 2 ^ k < 2 ^ 49
raised_small x k p q =
    let power : 2 ^ k ≤ 2 ^ 31 = pow-le-pow_right {n = 2} (omega arith) {i = k} {j = 31} (omega arith) in
    let product : x * 2 ^ k ≤ (2 ^ 17 - 1) * 2 ^ 31 = mul-le x (2 ^ k) (2 ^ 17 - 1) (2 ^ 31) (omega arith) power in
    omega (arith, product)

pub divided_small : (a n : ℕ) → a / 2 ^ n ≤ a
divided_small a n = div-le_self a (2 ^ n)
