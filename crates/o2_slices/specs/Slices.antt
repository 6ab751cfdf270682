-- Steps of a process that are done at once, one behind another, over what is in memory.
use Rattle.std.specs.Prelude.{◌≡◌, ◌≤◌, ◌⊎◌, ℕ, zero, suc, Bool, true, false, List, length, Option, Some}
use Rattle.o2_isa.specs.declared.cpu.Cpu.{Cpu}
use Rattle.o2_regions.specs.Maps.{Maps}
use Rattle.o2_place.specs.Layout.{len_of, over, used}
use Rattle.o2_store.specs.Shelf.{Shelf, place_of}
use Rattle.o2_segbus.specs.Frames.{CanStep, KeepsClean, KeepsMaps, KeepsStore}
use Rattle.o2_segbus.specs.Seen.{bytes_in, seen}
use Rattle.o2_stands.specs.Stands.{AreLawful}
use Rattle.o2_world.specs.declared.types.State.TheVariants.{Live}
use Rattle.o2_world.specs.Known.{Known}
use Rattle.o2_world.specs.Effect.{effect}
use Rattle.o2_gate.specs.Befores.{before_call}
use Rattle.o2_gate.specs.Pointed.{ArePresent}
use Rattle.o2_run.specs.Room.{touched}
use Rattle.o2_stepping.specs.Ran.{IsDone}
use Rattle.o2_stepping.specs.Worlds.{bytes_with, world_view}
use Rattle.o2_stepping.specs.declared.one_step.Ran.{Ran}
use Rattle.o2_slices.specs.declared.steps.AtOnce.{AtOnce}
use Rattle.o2_slices.specs.declared.steps.AtOnce.TheVariants.{Done, Waits, Undone}

-- what a step works on: the store, the tables of processes, and the registers
pub record Seat : Type 0 where
  pub shelf : Shelf
  pub maps : Maps
  pub cpu : Cpu

abbrev pub seat : Shelf → Maps → Cpu → Seat
seat s m c = record { shelf = s; maps = m; cpu = c }

-- a step that its process outlives, and that puts nothing
abbrev pub quiet : Ran
quiet = record { state = Live; tally = record { bytes = 0; lines = 0 }; whole = true }

-- a step is done at once, as an instruction or as a call that waits
abbrev pub is_step : AtOnce → Bool
is_step Done = true
is_step Waits = true
is_step Undone = false

-- registers and bytes are as they were
abbrev pub is_still : AtOnce → Bool
is_still Done = false
is_still Waits = true
is_still Undone = true

-- what a step of process pid, or a try of one, leaves of store and tables
pub record Follows (pid : ℕ) (a b : Seat) : Type 0 where
  pub store : KeepsStore a.shelf b.shelf
  pub maps : KeepsMaps a.maps b.maps
  pub clean : KeepsClean a.shelf a.maps b.shelf
  pub next : CanStep b.shelf b.maps pid b.cpu
  pub lawful : AreLawful b.shelf b.maps
  pub sum : over (λ k. len_of (place_of b.shelf k)) (length b.shelf.entries) ≡ used b.shelf.places.ranges
  pub within : used b.shelf.places.ranges ≤ b.shelf.places.size

-- one step of the boundless machine, whatever the bytes of the names that are out of memory, with nothing put or taken; all that it
-- touches is in memory
pub record IsStep (pid : ℕ) (a b : Seat) : Type 0 where
  pub before : CanStep a.shelf a.maps pid a.cpu
  pub follows : Follows pid a b
  pub done : (away : ℕ → List ℕ) (bytes : List ℕ) (known : Known) (console report : Option (List ℕ))
      → IsDone (effect (before_call (world_view away a.shelf a.maps pid a.cpu) pid a.cpu bytes known)) quiet
      b.cpu (bytes_with away b.shelf) (Some bytes) console console report report
  pub present : (away : ℕ → List ℕ) (bytes : List ℕ) (known : Known)
      → ArePresent (seen a.shelf a.maps pid a.cpu) (touched (before_call (world_view away a.shelf a.maps pid a.cpu) pid a.cpu bytes known))

-- a try of a step that isn't done
pub record IsTry (pid : ℕ) (a b : Seat) : Type 0 where
  pub follows : Follows pid a b
  pub cpu : b.cpu ≡ a.cpu
  pub bytes : (n : ℕ) → bytes_in b.shelf n ≡ bytes_in a.shelf n

-- k steps
abbrev pub AreSteps : (pid k : ℕ) → Seat → Seat → Type 0
AreSteps pid zero a b = a ≡ b
AreSteps pid (suc k) a b = (m : Seat) × (AreSteps pid k a m × IsStep pid m b)

-- k steps, and behind them a try of one that isn't done, or none
pub record AreSliced (pid k : ℕ) (a b : Seat) : Type 0 where
  pub last : Seat
  pub steps : AreSteps pid k a last
  pub behind : (last ≡ b) ⊎ IsTry pid last b
