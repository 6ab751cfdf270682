-- INT, INTO and BOUND.
use Rattle.std.specs.Prelude.{ℕ, ◌+◌, ◌*◌, ◌%◌, ◌==◌, ◌||◌, Bool, if◌then◌else◌, [], int_lt}
use Rattle.o2_isa.specs.declared.instr.Width.TheVariants.{Word}
use Rattle.o2_isa.specs.declared.instr.Instr.{Instr}
use Rattle.o2_isa.specs.declared.flags.Flag.TheVariants.{Overflow}
use Rattle.o2_isa.specs.declared.cpu.Cpu.{Cpu}
use Rattle.o2_isa.specs.declared.cpu.Stop.{Stop}
use Rattle.o2_isa.specs.declared.cpu.Stop.TheVariants as stop
use Rattle.o2_isa.specs.Flags.{is_set}
use Rattle.o2_isa.specs.Widths.{signed}
use Rattle.o2_isa.specs.Steps.{Steps, Stops, Ends, next_at, valued, pair_valued}

-- 3 and 4 are the breakpoint and the overflow trap; each other number has no gate in the interrupt table, which its code says
abbrev pub interrupt : ℕ → Stop
interrupt n = if n == 3 then stop.Trap 3 0 else if n == 4 then stop.Trap 4 0 else stop.Trap 13 ((8 * n + 2) % 65536)

-- a trap where the test holds
abbrev pub trap_if : Bool → ℕ → Cpu → ℕ → Steps
trap_if b vector c next = if b then Stops (stop.Trap vector 0) else Ends (next_at c next) []

abbrev pub into : Cpu → ℕ → Steps
into c next = trap_if (is_set c.flags Overflow) 4 c next

-- the signed number is below the first or above the second
abbrev pub is_beyond : ℕ → ℕ → ℕ → Bool
is_beyond x low high = int_lt (signed Word x) (signed Word low) || int_lt (signed Word high) (signed Word x)

unfoldable pub bound : Cpu → Instr → ℕ → Steps
bound c i next = valued c Word i.left (λ x. pair_valued c i.right (λ low high. trap_if (is_beyond x low high) 5 c next))
