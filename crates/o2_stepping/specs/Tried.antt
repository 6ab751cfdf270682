-- One try of a step of a process, over what is in memory.
use Rattle.std.specs.Prelude.{◌≡◌, ℕ, false, List, Option, Some, Result}
use Rattle.o2_outer.specs.Inputs.{Past, IsSeenAs, left_as}
use Rattle.o2_isa.specs.declared.cpu.Cpu.{Cpu}
use Rattle.o2_isa.specs.Presence.{IsMissed}
use Rattle.o2_regions.specs.Maps.{Maps}
use Rattle.o2_store.specs.Shelf.{Shelf}
use Rattle.o2_segbus.specs.Seen.{bytes_in, seen}
use Rattle.o2_world.specs.Known.{Known}
use Rattle.o2_world.specs.Effect.{effect}
use Rattle.o2_gate.specs.declared.state.State.{State as Services}
use Rattle.o2_gate.specs.Befores.{before_call, IsKnown}
use Rattle.o2_gate.specs.Pointed.{ArePresent}
use Rattle.o2_run.specs.declared.fault.Fault.{Fault}
use Rattle.o2_run.specs.Pieces.{Counts}
use Rattle.o2_run.specs.Room.{touched}
use Rattle.o2_stepping.specs.Pieces.{AttemptPart}
use Rattle.o2_stepping.specs.Ran.{Leaves, OnMissed, OnUndone, is_missed}
use Rattle.o2_stepping.specs.Worlds.{bytes_with, world_view}
use Rattle.o2_stepping.specs.declared.one_step.Attempt.{Attempt}

-- The step of the boundless machine by the map of process `seat`, whatever the bytes of the names that are out of memory; or
-- one of the names that it touches is missed, and all bytes in memory are as before. Where none is missed all of them are there.
-- The input is seen by what it tells, or as a text that the whole of it may be.
pub record TriesOver (s : Shelf) (m : Maps) (t : Shelf) (seat number : ℕ) (before after : Cpu) (services : Services)
    (told_old told_new : Option (List ℕ)) (past_old past_new : Past) (console_old console_new report_old report_new : Option (List ℕ)) (result : Result Attempt Fault) : Type 0 where
  pub leaves : (text : Option (List ℕ)) → IsSeenAs text past_new → (away : ℕ → List ℕ) (bytes : List ℕ) (known : Known)
      → left_as text told_old past_old ≡ Some bytes → IsKnown known services
      → let b = before_call (world_view away s m seat before) number before bytes known in
      Leaves b (effect b) after (bytes_with away s) (bytes_with away t) (left_as text told_old past_old) (left_as text told_new past_new)
      console_old console_new report_old report_new result
  pub missed : (away : ℕ → List ℕ) (bytes : List ℕ) (known : Known)
      → let b = before_call (world_view away s m seat before) number before bytes known in
      OnMissed result (λ z. IsMissed (seen s m seat before) z (touched b))
  pub present : (away : ℕ → List ℕ) (bytes : List ℕ) (known : Known) → is_missed result ≡ false
      → let b = before_call (world_view away s m seat before) number before bytes known in
      ArePresent (seen s m seat before) (touched b)
  pub same : OnUndone result ((n : ℕ) → bytes_in t n ≡ bytes_in s n)

-- what a sink's fault leaves of the step of the boundless machine, whatever the bytes of the names that are out of memory
pub record PartTried (s : Shelf) (m : Maps) (seat number : ℕ) (before : Cpu) (services : Services)
    (told : Option (List ℕ)) (past_old past_new : Past) (n : Counts) (result : Result Attempt Fault) : Type 0 where
  pub part : (text : Option (List ℕ)) → IsSeenAs text past_new → (away : ℕ → List ℕ) (bytes : List ℕ) (known : Known)
      → left_as text told past_old ≡ Some bytes → IsKnown known services
      → AttemptPart (effect (before_call (world_view away s m seat before) number before bytes known)) n result
