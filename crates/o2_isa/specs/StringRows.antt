-- The string instructions: one repetition a step.
use Rattle.std.specs.Prelude.{ℕ, ◌+◌, ◌-◌, ◌%◌, ◌==◌, ◌&&◌, ◌||◌, Bool, true, false, not, if◌then◌else◌, [], ◌∷◌}
use Rattle.o2_isa.specs.declared.instr.Width.{Width}
use Rattle.o2_isa.specs.declared.instr.Sreg.TheVariants.{Es}
use Rattle.o2_isa.specs.declared.instr.Rep.{Rep}
use Rattle.o2_isa.specs.declared.instr.Rep.TheVariants.{No, Equal, NotEqual}
use Rattle.o2_isa.specs.declared.instr.Instr.{Instr}
use Rattle.o2_isa.specs.declared.flags.Flag.TheVariants.{Zero, Direction}
use Rattle.o2_isa.specs.declared.cpu.Cpu.{Cpu}
use Rattle.o2_isa.specs.Flags.{is_set}
use Rattle.o2_isa.specs.Sums.{sub_of}
use Rattle.o2_isa.specs.View.{width_len}
use Rattle.o2_isa.specs.Registers.{accumulator, with_accumulator}
use Rattle.o2_isa.specs.Steps.{Steps, Ends, Reads, Room, Write, next_at, one_less}

-- an index goes on by the width: up, or down with DF
unfoldable pub moved : ℕ → Width → ℕ → ℕ
moved f w x = if is_set f Direction then (x + 65536 - width_len w) % 65536 else (x + width_len w) % 65536

-- a comparison ends a repetition by its ZF
abbrev pub ends_by_zero : Rep → ℕ → Bool
ends_by_zero No f = true
ends_by_zero Equal f = not (is_set f Zero)
ends_by_zero NotEqual f = is_set f Zero

-- after one repetition CX falls by 1, and IP moves on where CX is 0 or a comparison ends it
abbrev pub counted : Bool → Cpu → ℕ → Cpu
counted ends c next = record c { cx = one_less c.cx; ip = if ends || one_less c.cx == 0 then next else c.ip }

unfoldable pub repeated : Rep → Bool → Cpu → ℕ → Cpu
repeated No compares c next = next_at c next
repeated Equal compares c next = counted (compares && ends_by_zero Equal c.flags) c next
repeated NotEqual compares c next = counted (compares && ends_by_zero NotEqual c.flags) c next

abbrev pub source_moved : Width → Cpu → Cpu
source_moved w c = record c { si = moved c.flags w c.si }

abbrev pub target_moved : Width → Cpu → Cpu
target_moved w c = record c { di = moved c.flags w c.di }

unfoldable pub movs : Cpu → Instr → ℕ → Steps
movs c i next =
    Reads i.seg c.si i.width (λ x.
    Room Es c.di i.width (
    Ends (repeated i.rep false (target_moved i.width (source_moved i.width c)) next) (Write Es c.di i.width x ∷ [])))

unfoldable pub stos : Cpu → Instr → ℕ → Steps
stos c i next =
    Room Es c.di i.width (
    Ends (repeated i.rep false (target_moved i.width c) next) (Write Es c.di i.width (accumulator i.width c) ∷ []))

unfoldable pub lods : Cpu → Instr → ℕ → Steps
lods c i next =
    Reads i.seg c.si i.width (λ x.
    Ends (repeated i.rep false (source_moved i.width (with_accumulator i.width c x)) next) [])

-- the flags of a comparison
abbrev pub compared : Width → ℕ → ℕ → Cpu → Cpu
compared w a b c = record c { flags = (sub_of w a b false c.flags).1 }

-- the source less the target
unfoldable pub cmps : Cpu → Instr → ℕ → Steps
cmps c i next =
    Reads i.seg c.si i.width (λ a.
    Reads Es c.di i.width (λ b.
    Ends (repeated i.rep true (compared i.width a b (target_moved i.width (source_moved i.width c))) next) []))

-- the accumulator less the target
unfoldable pub scas : Cpu → Instr → ℕ → Steps
scas c i next =
    Reads Es c.di i.width (λ b.
    Ends (repeated i.rep true (compared i.width (accumulator i.width c) b (target_moved i.width c)) next) [])

-- with a repeat prefix and CX 0 nothing is done
abbrev pub is_over : Rep → ℕ → Bool
is_over No cx = false
is_over Equal cx = cx == 0
is_over NotEqual cx = cx == 0

abbrev pub repeating : Cpu → Instr → ℕ → Steps → Steps
repeating c i next one = if is_over i.rep c.cx then Ends (next_at c next) [] else one
