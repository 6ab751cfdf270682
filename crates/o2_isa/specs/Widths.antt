-- Numbers of 8 and 16 bits, without sign and in two's complement.
use Rattle.std.specs.Prelude.{◌<◌, ◌*◌, ℕ, Bool, not, ◌||◌, nat_lt, if◌then◌else◌, ℤ, pos, ◌-ℤ◌, int_lt, unsigned_abs}
use Rattle.std.specs.Int.{int_rem_euclid}
use Rattle.o2_isa.specs.declared.instr.Width.{Width}
use Rattle.o2_isa.specs.declared.instr.Width.TheVariants.{Byte, Word}

-- how many numbers the width has
abbrev pub modulus : Width → ℕ
modulus Byte = 256
modulus Word = 65536

-- the place value of the top bit, which is the sign bit
abbrev pub half : Width → ℕ
half Byte = 128
half Word = 32768

-- a number of the width
abbrev pub IsOfWidth : Width → ℕ → Type 0
IsOfWidth w x = x < modulus w

-- a number of twice the width
abbrev pub IsOfTwice : Width → ℕ → Type 0
IsOfTwice w x = x < modulus w * modulus w

-- the signed number that x is in two's complement modulo m
unfoldable pub signed_modulo : ℕ → ℕ → ℤ
signed_modulo m x = if nat_lt (x * 2) m then pos x else pos x -ℤ pos m

unfoldable pub signed : Width → ℕ → ℤ
signed w x = signed_modulo (modulus w) x

unfoldable pub signed_of_twice : Width → ℕ → ℤ
signed_of_twice w x = signed_modulo (modulus w * modulus w) x

-- the number from 0 that is z modulo m
unfoldable pub residue : ℕ → ℤ → ℕ
residue m z = unsigned_abs (int_rem_euclid z (pos m))

-- outside the signed numbers of the width
unfoldable pub overflows : Width → ℤ → Bool
overflows w z = int_lt z (pos 0 -ℤ pos (half w)) || not (int_lt z (pos (half w)))
