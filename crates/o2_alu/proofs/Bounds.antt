-- Bounds of products and of bitwise results.
use Rattle.std.proofs.Common.{ℕ, ◌≤◌, ◌^◌, bit_or, bit_xor}
use Rattle.std.specs.Prelude.{ℤ, ◌*ℤ◌, unsigned_abs}
use Rattle.std.proofs.lemmas.Int.{unsigned_abs-mul}
use Rattle.std.proofs.lemmas.Nat.{mul-le, or_lt, xor_lt}
use Rattle.o2_isa.specs.declared.instr.Width.{Width}
use Rattle.o2_isa.specs.declared.instr.Width.TheVariants.{Byte, Word}
use Rattle.o2_isa.specs.Widths.{IsOfWidth}

pub product_size : (a b : ℤ) → unsigned_abs a ≤ 32768 → unsigned_abs b ≤ 32768 → unsigned_abs (a *ℤ b) ≤ 2 ^ 30
product_size a b p q = rw (unsigned_abs-mul a b) (mul-le (unsigned_abs a) (unsigned_abs b) 32768 32768 p q)

pub or_fits : (w : Width) (a b : ℕ) → IsOfWidth w a → IsOfWidth w b → IsOfWidth w (bit_or a b)
or_fits Byte a b p q = or_lt 8 a b p q
or_fits Word a b p q = or_lt 16 a b p q

pub xor_fits : (w : Width) (a b : ℕ) → IsOfWidth w a → IsOfWidth w b → IsOfWidth w (bit_xor a b)
xor_fits Byte a b p q = xor_lt 8 a b p q
xor_fits Word a b p q = xor_lt 16 a b p q
