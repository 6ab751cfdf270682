-- Arithmetic by mnemonic: the result and the flags word.
use Rattle.std.specs.Prelude.{ℕ, false}
use Rattle.o2_isa.specs.declared.instr.Width.{Width}
use Rattle.o2_isa.specs.declared.families.BinaryOp.{BinaryOp}
use Rattle.o2_isa.specs.declared.families.BinaryOp.TheVariants as binary
use Rattle.o2_isa.specs.declared.families.LogicOp.TheVariants as logic
use Rattle.o2_isa.specs.declared.families.UnaryOp.{UnaryOp}
use Rattle.o2_isa.specs.declared.families.UnaryOp.TheVariants as unary
use Rattle.o2_isa.specs.declared.flags.Flag.TheVariants.{Carry}
use Rattle.o2_isa.specs.Flags.{is_set}
use Rattle.o2_isa.specs.Sums.{add_of, sub_of, logic_of, increment_of, decrement_of, negate_of, complement_of}

-- ADD, ADC, SUB, SBB, CMP, AND, TEST, OR and XOR
unfoldable pub binary_of : BinaryOp → Width → ℕ → ℕ → ℕ → ℕ × ℕ
binary_of binary.Add w a b f = add_of w a b false f
binary_of binary.Adc w a b f = add_of w a b (is_set f Carry) f
binary_of binary.Sub w a b f = sub_of w a b false f
binary_of binary.Cmp w a b f = sub_of w a b false f
binary_of binary.Sbb w a b f = sub_of w a b (is_set f Carry) f
binary_of binary.And w a b f = logic_of logic.And w a b f
binary_of binary.Test w a b f = logic_of logic.And w a b f
binary_of binary.Or w a b f = logic_of logic.Or w a b f
binary_of binary.Xor w a b f = logic_of logic.Xor w a b f

-- INC, DEC, NEG and NOT
unfoldable pub unary_of : UnaryOp → Width → ℕ → ℕ → ℕ × ℕ
unary_of unary.Inc w a f = increment_of w a f
unary_of unary.Dec w a f = decrement_of w a f
unary_of unary.Neg w a f = negate_of w a f
unary_of unary.Not w a f = (complement_of w a, f)
