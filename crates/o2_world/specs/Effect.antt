-- The atomic step of one process: an instruction, one repetition of a repeated string instruction, or a call of DOSCALLS with
-- its far CALL. It depends on what a step starts from alone.
use Rattle.std.specs.Prelude.{◌≡◌, true, false, not, ℕ, [], ◌∷◌, ◌++◌, if◌then◌else◌, ◌&&◌, Bool, Result, Ok, Err}
use Rattle.o2_isa.specs.declared.cpu.Stop.{Stop}
use Rattle.o2_isa.specs.declared.cpu.Stop.TheVariants as stop
use Rattle.o2_isa.specs.declared.flags.Flag.TheVariants.{Trap}
use Rattle.o2_isa.specs.Flags.{is_set}
use Rattle.o2_isa.specs.Steps.{State as Machine, state}
use Rattle.o2_isa.specs.Step.{stepped}
use Rattle.o2_world.specs.declared.types.State.TheVariants.{Live, Trapped}
use Rattle.o2_world.specs.World.{Traps, is_live}
use Rattle.o2_world.specs.Calls.{Before, Effect, trapped, serviced, asks}

-- the trap flag, bit 8
abbrev pub has_trap_flag : ℕ → Bool
has_trap_flag flags = is_set flags Trap

-- what an instruction came to; a miss can't come where all is present
abbrev pub answered : Before → Result Machine Stop → Effect
answered b (Ok s) = record { cpu = s.cpu; state = Live; bytes = s.view.bytes; changes = []; input = b.input; piece = []; lines = []; waits = false }
answered b (Err (stop.Trap vector code)) = trapped b vector
answered b (Err (stop.Gate service next)) = serviced b service next
answered b (Err (stop.Miss s)) = trapped b 11

-- where the trap flag was set before a step that the process outlives, exception 1 follows in the same step; not where the step waits,
-- but in the one in which the call comes back
abbrev pub single_stepped : Before → Effect → Effect
single_stepped b e =
    if has_trap_flag b.cpu.flags && (is_live e.state && not e.waits)
    then record e { state = Trapped 1; lines = e.lines ++ Traps b.number 1 b.cpu.cs b.cpu.ip ∷ [] }
    else e

unfoldable pub effect : Before → Effect
effect b = single_stepped b (answered b (stepped (state b.cpu b.view)))

-- the next step is a DosRead that goes to the input
pub record AsksInput (b : Before) : Type 0 where
  pub next : ℕ
  pub calls : stepped (state b.cpu b.view) ≡ Err (stop.Gate 3 next)
  pub asks_it : asks b ≡ true
