-- Two's complement there and back, and the laws of products and quotients.
use Rattle.std.proofs.Common.{◌≡◌, ℕ, ◌+◌, ◌*◌, ◌/◌, ◌%◌, ◌<◌, ◌≤◌, Bool, true, false, arith, refl, ℤ, pos, negsuc, ◌+ℤ◌, ◌*ℤ◌, if◌then◌else◌}
use Rattle.std.specs.Prelude.{unsigned_abs, int_rem, Some, None, IfSome}
use Rattle.std.proofs.lemmas.Int.{unsigned_abs-mul, quot-rem, rem_below}
use Rattle.std.proofs.lemmas.Nat.{mul-le, div-add-mod', mod_below}
use Rattle.o2_isa.specs.declared.instr.Width.{Width}
use Rattle.o2_isa.specs.declared.instr.Width.TheVariants.{Byte, Word}
use Rattle.o2_isa.specs.Widths.{modulus, half, IsOfWidth, signed, signed_modulo, signed_of_twice, residue, overflows}
use Rattle.o2_isa.specs.Products.{signed_product, mul_value, signed_quotient, signed_remainder, quotient_overflows, quotient, remainder, is_divide_error, div_of}

-- a signed number of the width comes back from its residue
signed_of_residue : (w : Width) (z : ℤ) → overflows w z ≡ false → signed w (residue (modulus w) z) ≡ z
unfolding signed signed_modulo residue overflows
signed_of_residue Byte (pos n) h = grind arith
signed_of_residue Byte (negsuc n) h = grind arith
signed_of_residue Word (pos n) h = grind arith
signed_of_residue Word (negsuc n) h = grind arith

-- and so does one of twice the width
twice_of_residue : (w : Width) (z : ℤ) → unsigned_abs z * 2 < modulus w * modulus w → signed_of_twice w (residue (modulus w * modulus w) z) ≡ z
unfolding signed_of_twice signed_modulo residue
twice_of_residue Byte (pos n) h = grind arith
twice_of_residue Byte (negsuc n) h = grind arith
twice_of_residue Word (pos n) h = grind arith
twice_of_residue Word (negsuc n) h = grind arith

signed_size : (w : Width) (x : ℕ) → IsOfWidth w x → unsigned_abs (signed w x) ≤ half w
unfolding signed signed_modulo
signed_size Byte x h = grind arith
signed_size Word x h = grind arith

square_size : (w : Width) → half w * half w * 2 < modulus w * modulus w
square_size Byte = omega arith
square_size Word = omega arith

pub signed_times : (w : Width) (a b : ℕ) → IsOfWidth w a → IsOfWidth w b → signed_of_twice w (mul_value w true a b) ≡ signed w a *ℤ signed w b
unfolding mul_value signed_product
signed_times w a b p q =
    let size = mul-le (unsigned_abs (signed w a)) (unsigned_abs (signed w b)) (half w) (half w) (signed_size w a p) (signed_size w b q) in
    let small : unsigned_abs (signed w a *ℤ signed w b) * 2 < modulus w * modulus w = rw (unsigned_abs-mul (signed w a) (signed w b)) (omega (arith, size, square_size w)) in
    twice_of_residue w (signed w a *ℤ signed w b) small

-- ---- quotient times divisor plus remainder is the dividend

has_divisor : (w : Width) (s : Bool) (a b : ℕ) → is_divide_error w s a b ≡ false → 0 < b
unfolding is_divide_error
has_divisor w s a b h = grind arith

has_quotient : (w : Width) (a b : ℕ) → is_divide_error w true a b ≡ false → overflows w (signed_quotient w a b) ≡ false
unfolding is_divide_error quotient_overflows
has_quotient w a b h = grind arith

is_within : (w : Width) (z : ℤ) → unsigned_abs z < half w → overflows w z ≡ false
unfolding overflows
is_within Byte (pos n) h = grind arith
is_within Byte (negsuc n) h = grind arith
is_within Word (pos n) h = grind arith
is_within Word (negsuc n) h = grind arith

signed_nonzero : (w : Width) (x : ℕ) → IsOfWidth w x → 0 < x → 0 < unsigned_abs (signed w x)
unfolding signed signed_modulo
signed_nonzero Byte x h p = grind arith
signed_nonzero Word x h p = grind arith

by_error : (P : ℕ × ℕ → Type 0) (e : Bool) (r : ℕ × ℕ) → (e ≡ false → P r) → IfSome {T = ℕ × ℕ} (if e then None else Some r) P
by_error P true r h = tt
by_error P false r h = h refl

pub unsigned_division : (w : Width) (a b : ℕ) → IfSome {T = ℕ × ℕ} (div_of w false a b) (λ r. (r.0 * b + r.1 ≡ a) × (r.1 < b))
unfolding div_of quotient remainder
unsigned_division w a b =
    by_error (λ r. (r.0 * b + r.1 ≡ a) × (r.1 < b)) (is_divide_error w false a b) (a / b, a % b)
    (λ h. (div-add-mod' a b, mod_below a b (has_divisor w false a b h)))

-- the quotient and the remainder as signed numbers
signed_parts : (w : Width) (a b : ℕ) → IsOfWidth w b → is_divide_error w true a b ≡ false →
    (signed w (quotient w true a b) ≡ signed_quotient w a b) × (signed w (remainder w true a b) ≡ signed_remainder w a b)
    × (unsigned_abs (signed_remainder w a b) < unsigned_abs (signed w b))
unfolding quotient remainder signed_remainder
signed_parts w a b p h =
    let below = rem_below (signed_of_twice w a) (signed w b) (signed_nonzero w b p (has_divisor w true a b h)) in
    let size = signed_size w b p in (
      signed_of_residue w (signed_quotient w a b) (has_quotient w a b h),
      signed_of_residue w (int_rem (signed_of_twice w a) (signed w b)) (is_within w _ (omega (arith, below, size))),
      below,
    )

pub signed_division : (w : Width) (a b : ℕ) → IsOfWidth w b →
    IfSome {T = ℕ × ℕ} (div_of w true a b) (λ r. (signed w r.0 *ℤ signed w b +ℤ signed w r.1 ≡ signed_of_twice w a) × (unsigned_abs (signed w r.1) < unsigned_abs (signed w b)))
unfolding div_of signed_quotient signed_remainder
signed_division w a b p =
    by_error (λ r. (signed w r.0 *ℤ signed w b +ℤ signed w r.1 ≡ signed_of_twice w a) × (unsigned_abs (signed w r.1) < unsigned_abs (signed w b)))
    (is_divide_error w true a b) (quotient w true a b, remainder w true a b)
    (λ h. let parts = signed_parts w a b p h in rw (parts.0, parts.1) (quot-rem (signed_of_twice w a) (signed w b), parts.2))
