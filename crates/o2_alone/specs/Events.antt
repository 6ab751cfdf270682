-- The events of a run: what each step of it does, as its process and the outside see it.
use Rattle.std.specs.Prelude.{ℕ, zero, suc, List, [], ◌∷◌, ◌++◌, ◌==◌, length, filter, Option, Some, None, option_map, if◌then◌else◌}
use Rattle.o2_isa.specs.declared.cpu.Cpu.{Cpu}
use Rattle.o2_conf.specs.Dispatch.{Dispatch}
use Rattle.o2_world.specs.declared.types.State.{State}
use Rattle.o2_world.specs.World.{World, Setting, Line}
use Rattle.o2_world.specs.Holders.{process_at}
use Rattle.o2_world.specs.CallParts.{Before, Effect}
use Rattle.o2_world.specs.Effect.{effect}
use Rattle.o2_world.specs.Run.{after, before, is_over, next_dispatch, ready}

-- a step: its process, the registers and the state behind it, the bytes that it writes to the console, and its lines
pub record Event : Type 0 where
  pub process : ℕ
  pub cpu : Cpu
  pub state : State
  pub piece : List ℕ
  pub lines : List Line

abbrev pub event_by : ℕ → Effect → Event
event_by number e = record { process = number; cpu = e.cpu; state = e.state; piece = e.piece; lines = e.lines }

abbrev pub event_of : Before → Event
event_of b = event_by b.number (effect b)

-- what the step of the process that comes next starts from
abbrev pub chosen_before : Setting → World → Dispatch → Option Before
chosen_before s w d = option_map (before s w d.current) (process_at w.processes d.current)

-- what the next step starts from, behind the words `discard` that come before it; a run that is over has none
abbrev pub next_before : Setting → World → Option Before
next_before s w = if is_over w then None else chosen_before s (ready w) (next_dispatch s w)

abbrev pub event_list : Option Before → List Event
event_list None = []
event_list (Some b) = event_of b ∷ []

-- the events of the first k steps, in their order
unfoldable pub events : Setting → World → ℕ → List Event
events s w zero = []
events s w (suc k) = events s w k ++ event_list (next_before s (after s w k))

-- those of one process
abbrev pub events_of : ℕ → List Event → List Event
events_of number es = filter (λ (e : Event). e.process == number) es

-- how many of the first k steps are its own
abbrev pub own_steps : Setting → World → (number k : ℕ) → ℕ
own_steps s w number k = length (events_of number (events s w k))
