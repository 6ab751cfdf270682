-- Jumps: near ones within CS, and far ones.
use Rattle.std.specs.Prelude.{ℕ, ◌+◌, ◌%◌, ◌==◌, ◌&&◌, Bool, not, if◌then◌else◌, [], ◌∷◌}
use Rattle.o2_isa.specs.declared.instr.Sreg.TheVariants.{Cs}
use Rattle.o2_isa.specs.declared.instr.Arg.{Arg}
use Rattle.o2_isa.specs.declared.instr.Arg.TheVariants as arg
use Rattle.o2_isa.specs.declared.instr.Instr.{Instr}
use Rattle.o2_isa.specs.declared.flags.Flag.TheVariants.{Sign, Overflow}
use Rattle.o2_isa.specs.declared.cpu.Cpu.{Cpu}
use Rattle.o2_isa.specs.declared.cpu.Purpose.TheVariants.{Jump}
use Rattle.o2_isa.specs.Flags.{is_set}
use Rattle.o2_isa.specs.View.{ring3}
use Rattle.o2_isa.specs.Steps.{Steps, Ends, Loads, Bind, within, next_at, one_less}

-- a number in the instruction
abbrev pub immediate : Arg → ℕ
immediate (arg.Imm n) = n
immediate _ = 0

-- the target of a relative jump or call: so far behind the next IP
abbrev pub relative : Arg → ℕ → ℕ
relative a next = (next + immediate a) % 65536

-- IP moves to a target within CS
unfoldable pub jmp : Cpu → ℕ → Steps
jmp c ip = within c.cs ip (Ends (next_at c ip) [])

-- the same, or on to the next instruction
unfoldable pub jmp_if : Bool → Cpu → ℕ → ℕ → Steps
jmp_if taken c ip next = if taken then jmp c ip else Ends (next_at c next) []

-- the sign flag isn't the overflow flag: the signed comparison said less
abbrev pub is_less : ℕ → Bool
is_less f = if is_set f Sign then not (is_set f Overflow) else is_set f Overflow

-- a conditional jump
abbrev pub jcc : Bool → Cpu → Instr → ℕ → Steps
jcc taken c i next = jmp_if taken c (relative i.left next) next

-- CX falls by 1, and where it isn't 0 then and `more` holds, IP moves
unfoldable pub loop_if : Bool → Cpu → ℕ → ℕ → Steps
loop_if more c ip next = jmp_if (more && not (one_less c.cx == 0)) (record c { cx = one_less c.cx }) ip next

-- a jump into another code segment; CS gets requested privilege level 3
unfoldable pub jmp_far : Cpu → ℕ → ℕ → ℕ → Steps
jmp_far c ip cs next =
    Loads Jump cs next (
    within cs ip (
    Ends (record c { cs = ring3 cs; ip = ip }) (Bind Cs (ring3 cs) ∷ [])))
