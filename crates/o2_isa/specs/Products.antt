-- Products and quotients. A product has twice the width of its factors, and so has a dividend.
use Rattle.std.specs.Prelude.{ℕ, ◌*◌, ◌/◌, ◌%◌, Bool, true, false, ◌==◌, ◌||◌, nat_le, if◌then◌else◌, ℤ, ◌*ℤ◌, int_div, int_rem, Option, Some, None}
use Rattle.o2_isa.specs.declared.instr.Width.{Width}
use Rattle.o2_isa.specs.declared.instr.Width.TheVariants.{Word}
use Rattle.o2_isa.specs.declared.flags.Flag.TheVariants.{Carry, Overflow}
use Rattle.o2_isa.specs.Widths.{modulus, signed, signed_of_twice, residue, overflows}
use Rattle.o2_isa.specs.Flags.{put}

-- ---- MUL, and IMUL where signed

unfoldable pub signed_product : Width → ℕ → ℕ → ℤ
signed_product w a b = signed w a *ℤ signed w b

unfoldable pub mul_value : Width → Bool → ℕ → ℕ → ℕ
mul_value w false a b = a * b
mul_value w true a b = residue (modulus w * modulus w) (signed_product w a b)

-- the product is no number of the width: its upper half isn't 0, or isn't the sign's extension
unfoldable pub mul_overflows : Width → Bool → ℕ → ℕ → Bool
mul_overflows w false a b = nat_le (modulus w) (a * b)
mul_overflows w true a b = overflows w (signed_product w a b)

-- the product and the flags word
unfoldable pub mul_of : Width → Bool → ℕ → ℕ → ℕ → ℕ × ℕ
mul_of w s a b f = (mul_value w s a b, put (put f Carry (mul_overflows w s a b)) Overflow (mul_overflows w s a b))

-- IMUL with three operands: the low word of the product, with the same flags
unfoldable pub mul_low_of : ℕ → ℕ → ℕ → ℕ × ℕ
mul_low_of a b f = let r = mul_of Word true a b f in (r.0 % 65536, r.1)

-- ---- DIV, and IDIV where signed

-- the signed quotient, cut to a whole number towards 0
unfoldable pub signed_quotient : Width → ℕ → ℕ → ℤ
signed_quotient w a b = int_div (signed_of_twice w a) (signed w b)

-- what is left of the dividend, with its sign
unfoldable pub signed_remainder : Width → ℕ → ℕ → ℤ
signed_remainder w a b = int_rem (signed_of_twice w a) (signed w b)

-- the quotient is no number of the width
unfoldable pub quotient_overflows : Width → Bool → ℕ → ℕ → Bool
quotient_overflows w false a b = nat_le (modulus w) (a / b)
quotient_overflows w true a b = overflows w (signed_quotient w a b)

unfoldable pub quotient : Width → Bool → ℕ → ℕ → ℕ
quotient w false a b = a / b
quotient w true a b = residue (modulus w) (signed_quotient w a b)

unfoldable pub remainder : Width → Bool → ℕ → ℕ → ℕ
remainder w false a b = a % b
remainder w true a b = residue (modulus w) (signed_remainder w a b)

-- no quotient: a divide error
unfoldable pub is_divide_error : Width → Bool → ℕ → ℕ → Bool
is_divide_error w s a b = b == 0 || quotient_overflows w s a b

-- quotient and remainder
unfoldable pub div_of : Width → Bool → ℕ → ℕ → Option (ℕ × ℕ)
div_of w s a b = if is_divide_error w s a b then None else Some (quotient w s a b, remainder w s a b)
