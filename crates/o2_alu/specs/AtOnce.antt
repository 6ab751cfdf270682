-- Shifts and rotations by k bits at once.
use Rattle.std.specs.Prelude.{ℕ, ◌+◌, ◌-◌, ◌*◌, ◌/◌, ◌%◌, ◌^◌, Bool, true, false, if◌then◌else◌, IsTrue}
use Rattle.o2_isa.specs.declared.instr.Width.{Width}
use Rattle.o2_isa.specs.declared.instr.Width.TheVariants.{Byte, Word}
use Rattle.o2_isa.specs.declared.families.ShiftOp.{ShiftOp}
use Rattle.o2_isa.specs.declared.families.ShiftOp.TheVariants.{Rol, Ror, Rcl, Rcr, Shl, Shr, Sar}
use Rattle.o2_isa.specs.Widths.{modulus}
use Rattle.o2_isa.specs.Shifts.{top}

abbrev pub bits : Width → ℕ
bits Byte = 8
bits Word = 16

-- the low bits go up by k, the k top bits come down
abbrev pub rolled : Width → ℕ → ℕ → ℕ
rolled w k a = a % 2 ^ (bits w - k) * 2 ^ k + a / 2 ^ (bits w - k)

-- the k low bits go to the top, the others down by k
abbrev pub unrolled : Width → ℕ → ℕ → ℕ
unrolled w k a = a % 2 ^ k * 2 ^ (bits w - k) + a / 2 ^ k

-- a number without sign bit goes down; of one with a sign bit, the complement does
abbrev pub lowered : Width → ℕ → ℕ → ℕ
lowered w n a = if top w a then modulus w - 1 - (modulus w - 1 - a) / 2 ^ n else a / 2 ^ n

-- the shifts and rotations whose result doesn't depend on CF
abbrev pub is_at_once : ShiftOp → Bool
is_at_once Rol = true
is_at_once Ror = true
is_at_once Shl = true
is_at_once Shr = true
is_at_once Sar = true
is_at_once Rcl = false
is_at_once Rcr = false

abbrev pub IsAtOnce : ShiftOp → Type 0
IsAtOnce op = IsTrue (is_at_once op)
