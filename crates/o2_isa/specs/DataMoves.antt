-- MOV, XCHG, LEA, LES, LDS, XLAT, CBW and CWD. None changes a flag.
use Rattle.std.specs.Prelude.{ℕ, ◌+◌, ◌%◌, [], ◌∷◌, nat_lt, if◌then◌else◌}
use Rattle.o2_isa.specs.declared.instr.Width.{Width}
use Rattle.o2_isa.specs.declared.instr.Width.TheVariants.{Byte, Word}
use Rattle.o2_isa.specs.declared.instr.Sreg.{Sreg}
use Rattle.o2_isa.specs.declared.instr.Sreg.TheVariants.{Es, Cs, Ss, Ds}
use Rattle.o2_isa.specs.declared.instr.Arg.{Arg}
use Rattle.o2_isa.specs.declared.instr.Arg.TheVariants as arg
use Rattle.o2_isa.specs.declared.instr.Instr.{Instr}
use Rattle.o2_isa.specs.declared.cpu.Cpu.{Cpu}
use Rattle.o2_isa.specs.declared.cpu.Purpose.{Purpose}
use Rattle.o2_isa.specs.declared.cpu.Purpose.TheVariants.{DataReg, StackReg}
use Rattle.o2_isa.specs.declared.cpu.Stop.TheVariants as stop
use Rattle.o2_isa.specs.Registers.{with_sreg, offset_of}
use Rattle.o2_isa.specs.Steps.{Steps, Stops, Ends, Reads, Room, Loads, Bind, Write, valued, storing, narrow, next_at, above}
use Rattle.o2_isa.specs.Finishing.{placed}

-- what a segment register is loaded for
abbrev pub purpose_of : Sreg → Purpose
purpose_of Es = DataReg
purpose_of Cs = DataReg
purpose_of Ss = StackReg
purpose_of Ds = DataReg

-- a selector into a segment register
unfoldable pub loading : Cpu → Sreg → ℕ → ℕ → Steps
loading c r x next = Loads (purpose_of r) x next (Ends (next_at (with_sreg c r x) next) (Bind r x ∷ []))

unfoldable pub mov_sreg : Cpu → Sreg → Arg → ℕ → Steps
mov_sreg c r a next = valued c Word a (λ x. loading c r x next)

unfoldable pub mov_into : Cpu → Instr → ℕ → Steps
mov_into c i next = valued c i.width i.right (λ x. storing c i.width i.left x next)

abbrev pub mov : Cpu → Instr → Arg → ℕ → Steps
mov c i (arg.S r) next = mov_sreg c r i.right next
mov c i _ next = mov_into c i next

-- b into the left operand, and a into the right one, which is a register
unfoldable pub exchanging : Cpu → Width → Arg → ℕ → Arg → ℕ → ℕ → Steps
exchanging c w (arg.M ea) b right a next = Room ea.seg (offset_of c ea) w (Ends (next_at (placed c right a) next) (Write ea.seg (offset_of c ea) w (narrow w b) ∷ []))
exchanging c w left b right a next = Ends (next_at (placed (placed c left b) right a) next) []

unfoldable pub xchg : Cpu → Instr → ℕ → Steps
xchg c i next = valued c i.width i.left (λ a. valued c i.width i.right (λ b. exchanging c i.width i.left b i.right a next))

-- the offset of an operand in memory
abbrev pub address_of : Cpu → Arg → ℕ
address_of c (arg.M ea) = offset_of c ea
address_of c _ = 0

-- the offset itself; no segment is asked
unfoldable pub lea : Cpu → Instr → ℕ → Steps
lea c i next = storing c Word i.left (address_of c i.right) next

-- LES and LDS: the offset into the register, and the selector behind it into the segment register
unfoldable pub load_pointer : Cpu → Sreg → Arg → Arg → ℕ → Steps
load_pointer c r left (arg.M ea) next =
    Reads ea.seg (offset_of c ea) Word (λ o.
    Reads ea.seg (above (offset_of c ea)) Word (λ s.
    loading (placed c left o) r s next))
load_pointer c r left _ next = Stops (stop.Trap 6 0)

-- AL becomes the byte at BX plus AL
unfoldable pub xlat : Cpu → Instr → ℕ → Steps
xlat c i next = Reads i.seg ((c.bx + c.ax % 256) % 65536) Byte (λ x. storing c Byte (arg.R8 0) x next)

-- AX becomes AL with its sign
unfoldable pub cbw : Cpu → ℕ → Steps
cbw c next = Ends (record c { ax = if nat_lt (c.ax % 256) 128 then c.ax % 256 else c.ax % 256 + 0xFF00; ip = next }) []

-- DX becomes the sign of AX
unfoldable pub cwd : Cpu → ℕ → Steps
cwd c next = Ends (record c { dx = if nat_lt c.ax 0x8000 then 0 else 0xFFFF; ip = next }) []
