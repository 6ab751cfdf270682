-- Registers by number, and the offset of a memory operand.
use Rattle.std.specs.Prelude.{ℕ, ◌+◌, ◌*◌, ◌/◌, ◌%◌, ◌==◌, nat_lt, if◌then◌else◌}
use Rattle.o2_isa.specs.declared.instr.Width.{Width}
use Rattle.o2_isa.specs.declared.instr.Width.TheVariants.{Byte, Word}
use Rattle.o2_isa.specs.declared.instr.Ea.{Ea}
use Rattle.o2_isa.specs.declared.instr.Sreg.{Sreg}
use Rattle.o2_isa.specs.declared.instr.Sreg.TheVariants.{Es, Cs, Ss, Ds}
use Rattle.o2_isa.specs.declared.cpu.Cpu.{Cpu}

-- AX CX DX BX SP BP SI DI
unfoldable pub reg16 : Cpu → ℕ → ℕ
reg16 c n = if n == 0 then c.ax else if n == 1 then c.cx else if n == 2 then c.dx else if n == 3 then c.bx else if n == 4 then c.sp else if n == 5 then c.bp else if n == 6 then c.si else c.di

unfoldable pub with_reg16 : Cpu → ℕ → ℕ → Cpu
with_reg16 c n x = if n == 0 then record c { ax = x } else if n == 1 then record c { cx = x } else if n == 2 then record c { dx = x }
    else if n == 3 then record c { bx = x } else if n == 4 then record c { sp = x } else if n == 5 then record c { bp = x } else if n == 6
    then record c { si = x } else record c { di = x }

-- AL CL DL BL AH CH DH BH
unfoldable pub reg8 : Cpu → ℕ → ℕ
reg8 c n = if nat_lt n 4 then reg16 c n % 256 else reg16 c (n % 4) / 256

unfoldable pub with_reg8 : Cpu → ℕ → ℕ → Cpu
with_reg8 c n x = if nat_lt n 4 then with_reg16 c n (reg16 c n / 256 * 256 + x) else with_reg16 c (n % 4) (x * 256 + reg16 c (n % 4) % 256)

-- AL or AX
abbrev pub accumulator : Width → Cpu → ℕ
accumulator Byte c = reg8 c 0
accumulator Word c = reg16 c 0

abbrev pub with_accumulator : Width → Cpu → ℕ → Cpu
with_accumulator Byte c x = with_reg8 c 0 x
with_accumulator Word c x = with_reg16 c 0 x

abbrev pub sreg : Cpu → Sreg → ℕ
sreg c Es = c.es
sreg c Cs = c.cs
sreg c Ss = c.ss
sreg c Ds = c.ds

abbrev pub with_sreg : Cpu → Sreg → ℕ → Cpu
with_sreg c Es x = record c { es = x }
with_sreg c Cs x = record c { cs = x }
with_sreg c Ss x = record c { ss = x }
with_sreg c Ds x = record c { ds = x }

-- BX+SI, BX+DI, BP+SI, BP+DI, SI, DI, BP, BX, and none
abbrev pub base_of : Cpu → ℕ → ℕ
base_of c b = if b == 0 then c.bx + c.si else if b == 1 then c.bx + c.di else if b == 2 then c.bp + c.si else if b == 3 then c.bp + c.di else if b == 4 then c.si else if b == 5 then c.di else if b == 6 then c.bp else if b == 7 then c.bx else 0

unfoldable pub offset_of : Cpu → Ea → ℕ
offset_of c e = (base_of c e.base + e.disp) % 65536
