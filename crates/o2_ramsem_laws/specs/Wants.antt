-- A step that wants a clear semaphore, and what it answers.
use Rattle.std.specs.Prelude.{◌⊎◌, ◌≡◌, ℕ, ◌==◌, ◌&&◌, true, not, List, [], ◌∷◌, if◌then◌else◌, Option, Some, None, Err}
use Rattle.o2_isa.specs.Steps.{state}
use Rattle.o2_isa.specs.Step.{stepped}
use Rattle.o2_isa.specs.declared.cpu.Stop.TheVariants as stop
use Rattle.o2_world.specs.World.{Line, Starts, HoldsBy, DropsBy, Calls, Exits, Ends, Traps}
use Rattle.o2_world.specs.CallParts.{Before, Effect, argument, has_arguments, may_write}
use Rattle.o2_world.specs.Calls.{timeout_in}
use Rattle.o2_ramsem.specs.Calls.{IsTimeout}
use Rattle.o2_ramsem_laws.specs.Told.{Place, is_at}

-- a call of DosSemRequest or DosSemWait on the semaphore at a place, with a good pointer and a timeout that it may have
pub record Wants (b : Before) (place : Place) (timeout : ℕ) : Type 0 where
  pub service : ℕ
  pub wants : (service ≡ 25) ⊎ (service ≡ 27)
  pub next : ℕ
  pub calls : stepped (state b.cpu b.view) ≡ Err (stop.Gate service next)
  pub words : has_arguments b.view b.cpu 4 ≡ true
  pub there : is_at place (argument b.view b.cpu 3) (argument b.view b.cpu 2) ≡ true
  pub good : may_write b.view (argument b.view b.cpu 3) (argument b.view b.cpu 2) 4 ≡ true
  pub timeout_is : timeout_in (argument b.view b.cpu) ≡ timeout
  pub timely : IsTimeout timeout

-- the error of a call's line, where the first of lines is one
abbrev pub error_told : List Line → Option ℕ
error_told [] = None
error_told (Starts p name ∷ ls) = None
error_told (HoldsBy p s cause ∷ ls) = None
error_told (DropsBy p s cause ∷ ls) = None
error_told (Calls p name args error values ∷ ls) = Some error
error_told (Exits p action code ∷ ls) = None
error_told (Ends p code ∷ ls) = None
error_told (Traps p vector s o ∷ ls) = None

-- where nobody owns the semaphore the line says 0; where somebody does it says 121 at timeout 0, and else the step waits and has no line
pub record Answers (e : Effect) (owner timeout : ℕ) : Type 0 where
  pub error : error_told e.lines ≡ (if owner == 0 then Some 0 else if timeout == 0 then Some 121 else None)
  pub waits : e.waits ≡ (not (owner == 0) && not (timeout == 0))
