-- Sums, differences and bitwise results, with their flags.
use Rattle.std.specs.Prelude.{ℕ, ◌+◌, ◌-◌, ◌%◌, Bool, false, not, ◌==◌, nat_lt, nat_le, if◌then◌else◌, pos, ◌+ℤ◌, ◌-ℤ◌, bit_and, bit_or, bit_xor}
use Rattle.o2_isa.specs.declared.instr.Width.{Width}
use Rattle.o2_isa.specs.declared.families.LogicOp.{LogicOp}
use Rattle.o2_isa.specs.declared.families.LogicOp.TheVariants as logic
use Rattle.o2_isa.specs.declared.flags.Flag.TheVariants.{Carry, Auxiliary, Overflow}
use Rattle.o2_isa.specs.Widths.{modulus, half, signed, overflows}
use Rattle.o2_isa.specs.Flags.{put, with_szp, with_carries}

-- a carry as a number
unfoldable pub bit : Bool → ℕ
bit b = if b then 1 else 0

-- ---- the sum of a, b and the carry c

unfoldable pub sum_value : Width → ℕ → ℕ → Bool → ℕ
sum_value w a b c = (a + b + bit c) % modulus w

-- the sum is no number of the width
unfoldable pub sum_carries : Width → ℕ → ℕ → Bool → Bool
sum_carries w a b c = nat_le (modulus w) (a + b + bit c)

-- the sum of the low four bits is no number of four bits
unfoldable pub sum_adjusts : ℕ → ℕ → Bool → Bool
sum_adjusts a b c = nat_le 16 (a % 16 + b % 16 + bit c)

-- the sum of the signed numbers is no signed number of the width
unfoldable pub sum_overflows : Width → ℕ → ℕ → Bool → Bool
sum_overflows w a b c = overflows w (signed w a +ℤ signed w b +ℤ pos (bit c))

-- ADD and ADC: the sum and the flags word
unfoldable pub add_of : Width → ℕ → ℕ → Bool → ℕ → ℕ × ℕ
add_of w a b c f = (sum_value w a b c, with_szp w (sum_value w a b c) (with_carries f (sum_carries w a b c) (sum_adjusts a b c) (sum_overflows w a b c)))

-- ---- the difference of a and b, less the borrow c

unfoldable pub difference_value : Width → ℕ → ℕ → Bool → ℕ
difference_value w a b c = (a + modulus w - b - bit c) % modulus w

-- the difference is below 0
unfoldable pub difference_borrows : ℕ → ℕ → Bool → Bool
difference_borrows a b c = nat_lt a (b + bit c)

-- the difference of the signed numbers is no signed number of the width
unfoldable pub difference_overflows : Width → ℕ → ℕ → Bool → Bool
difference_overflows w a b c = overflows w (signed w a -ℤ signed w b -ℤ pos (bit c))

-- SUB, SBB and CMP: the difference and the flags word
unfoldable pub sub_of : Width → ℕ → ℕ → Bool → ℕ → ℕ × ℕ
sub_of w a b c f = (difference_value w a b c, with_szp w (difference_value w a b c) (with_carries f (difference_borrows a b c) (difference_borrows (a % 16) (b % 16) c) (difference_overflows w a b c)))

-- ---- one operand

-- INC: one more, and CF stays
unfoldable pub increment_of : Width → ℕ → ℕ → ℕ × ℕ
increment_of w a f = (sum_value w a 1 false, with_szp w (sum_value w a 1 false) (put (put f Auxiliary (sum_adjusts a 1 false)) Overflow (sum_overflows w a 1 false)))

-- DEC: one less, and CF stays
unfoldable pub decrement_of : Width → ℕ → ℕ → ℕ × ℕ
decrement_of w a f = (difference_value w a 1 false, with_szp w (difference_value w a 1 false) (put (put f Auxiliary (difference_borrows (a % 16) 1 false)) Overflow (difference_overflows w a 1 false)))

-- NEG: the complement to the modulus; CF where the operand isn't 0, AF where its low four bits aren't,
-- OF where it is the least signed number
unfoldable pub negate_of : Width → ℕ → ℕ → ℕ × ℕ
negate_of w a f = let r = (modulus w - a) % modulus w in (r, with_szp w r (with_carries f (not (a == 0)) (not (a % 16 == 0)) (a == half w)))

-- NOT: each bit turned over; no flags
unfoldable pub complement_of : Width → ℕ → ℕ
complement_of w a = modulus w - 1 - a

-- ---- AND, TEST, OR and XOR

abbrev pub logic_value : LogicOp → ℕ → ℕ → ℕ
logic_value logic.And a b = bit_and a b
logic_value logic.Or a b = bit_or a b
logic_value logic.Xor a b = bit_xor a b

-- the result and the flags word: CF and OF are 0
unfoldable pub logic_of : LogicOp → Width → ℕ → ℕ → ℕ → ℕ × ℕ
logic_of op w a b f = let r = logic_value op a b in (r, with_szp w r (put (put f Carry false) Overflow false))
