-- Arithmetic on two operands and on one, shifts, products, quotients and decimal adjustment. What they compute, flags
-- included, is said in `Alu`, `Shifts`, `Products` and `Adjust`.
use Rattle.std.specs.Prelude.{ℕ, ◌+◌, ◌*◌, ◌/◌, ◌%◌, Bool, ◌==◌, if◌then◌else◌, [], Option, Some, None}
use Rattle.o2_isa.specs.declared.instr.Width.{Width}
use Rattle.o2_isa.specs.declared.instr.Width.TheVariants.{Byte, Word}
use Rattle.o2_isa.specs.declared.instr.Arg.{Arg}
use Rattle.o2_isa.specs.declared.instr.Arg.TheVariants as arg
use Rattle.o2_isa.specs.declared.families.BinaryOp.{BinaryOp}
use Rattle.o2_isa.specs.declared.families.BinaryOp.TheVariants.{Add, Or, Adc, Sbb, And, Sub, Xor, Cmp, Test}
use Rattle.o2_isa.specs.declared.families.UnaryOp.{UnaryOp}
use Rattle.o2_isa.specs.declared.families.ShiftOp.{ShiftOp}
use Rattle.o2_isa.specs.declared.families.AdjustOp.{AdjustOp}
use Rattle.o2_isa.specs.declared.instr.Instr.{Instr}
use Rattle.o2_isa.specs.declared.cpu.Cpu.{Cpu}
use Rattle.o2_isa.specs.declared.cpu.Stop.TheVariants as stop
use Rattle.o2_isa.specs.Alu.{binary_of, unary_of}
use Rattle.o2_isa.specs.Shifts.{shift_of}
use Rattle.o2_isa.specs.Products.{mul_of, mul_low_of, div_of}
use Rattle.o2_isa.specs.Adjust.{adjust_of}
use Rattle.o2_isa.specs.Registers.{accumulator}
use Rattle.o2_isa.specs.Steps.{Steps, Stops, Ends}
use Rattle.o2_isa.specs.Finishing.{taking, finishing, ended}

-- CMP and TEST store nothing
abbrev pub result_into : BinaryOp → Arg → Arg
result_into Cmp a = arg.No
result_into Test a = arg.No
result_into Add a = a
result_into Or a = a
result_into Adc a = a
result_into Sbb a = a
result_into And a = a
result_into Sub a = a
result_into Xor a = a

-- ADD, OR, ADC, SBB, AND, SUB, XOR, CMP and TEST
unfoldable pub binary : BinaryOp → Cpu → Instr → ℕ → Steps
binary op c i next =
    taking c i.width i.left (λ a.
    taking c i.width i.right (λ b.
    let r = binary_of op i.width a b c.flags in
    finishing c i.width (result_into op i.left) r.0 r.1 next))

-- INC, DEC, NEG and NOT
unfoldable pub unary : UnaryOp → Cpu → Instr → ℕ → Steps
unary op c i next =
    taking c i.width i.left (λ a.
    let r = unary_of op i.width a c.flags in
    finishing c i.width i.left r.0 r.1 next)

-- a count of 0 modulo 32 stores nothing
abbrev pub shifted_into : ℕ → Arg → Arg
shifted_into count a = if count % 32 == 0 then arg.No else a

-- ROL, ROR, RCL, RCR, SHL, SHR and SAR
unfoldable pub shift : ShiftOp → Cpu → Instr → ℕ → Steps
shift op c i next =
    taking c i.width i.left (λ a.
    taking c Byte i.right (λ count.
    let r = shift_of op i.width a count c.flags in
    finishing c i.width (shifted_into count i.left) r.0 r.1 next))

-- the dividend in AX or DX:AX
abbrev pub wide : Cpu → Width → ℕ
wide c Byte = c.ax
wide c Word = c.ax + 65536 * c.dx

-- a product into AX or DX:AX
abbrev pub with_wide : Cpu → Width → ℕ → Cpu
with_wide c Byte x = record c { ax = x % 65536 }
with_wide c Word x = record c { ax = x % 65536; dx = x / 65536 }

-- MUL, and IMUL where signed: the other factor is in AL or AX
unfoldable pub mul : Bool → Cpu → Instr → ℕ → Steps
mul signed c i next =
    taking c i.width i.left (λ b.
    let r = mul_of i.width signed (accumulator i.width c) b c.flags in
    Ends (ended (with_wide c i.width r.0) r.1 next) [])

-- IMUL with three operands
unfoldable pub imul_three : Cpu → Instr → ℕ → Steps
imul_three c i next =
    taking c Word i.right (λ a.
    taking c Word i.third (λ b.
    let r = mul_low_of a b c.flags in
    finishing c Word i.left r.0 r.1 next))

-- quotient and remainder into AL and AH, or AX and DX
abbrev pub with_quotient : Cpu → Width → ℕ → ℕ → Cpu
with_quotient c Byte q r = record c { ax = r * 256 + q }
with_quotient c Word q r = record c { ax = q; dx = r }

-- no quotient is a divide error; the flags stay
abbrev pub divided : Cpu → Width → Option (ℕ × ℕ) → ℕ → Steps
divided c w None next = Stops (stop.Trap 0 0)
divided c w (Some r) next = Ends (ended (with_quotient c w r.0 r.1) c.flags next) []

-- DIV, and IDIV where signed
unfoldable pub div : Bool → Cpu → Instr → ℕ → Steps
div signed c i next = taking c i.width i.left (λ b. divided c i.width (div_of i.width signed (wide c i.width) b) next)

abbrev pub adjusted : Cpu → Option (ℕ × ℕ) → ℕ → Steps
adjusted c None next = Stops (stop.Trap 0 0)
adjusted c (Some r) next = Ends (ended (record c { ax = r.0 }) r.1 next) []

-- DAA, DAS, AAA and AAS; AAM and AAD have the base as their operand
unfoldable pub adjust : AdjustOp → Cpu → Instr → ℕ → Steps
adjust op c i next = taking c Byte i.left (λ base. adjusted c (adjust_of op c.ax base c.flags) next)
