-- When a command is done: where each step has what it needs, and no count of faults rises.
use Rattle.std.specs.Prelude.{◌≡◌, ◌≤◌, ◌⊎◌, ℕ, min, List, Option, Some, Ok, String}
use Rattle.std.specs.declared.alloc.Global.{Global}
use Rattle.o2_words.specs.declared.words.Verb.TheVariants.{Check}
use Rattle.o2_words.specs.Words.{IsCommandFor}
use Rattle.o2_world.specs.World.{World, Setting}
use Rattle.o2_world.specs.Run.{after, IsBelowLast}
use Rattle.o2_run.specs.Room.{room, swap_load, live_load}
use Rattle.o2_run.specs.Ended.{AllFitRun}
use Rattle.o2_open.specs.declared.session.Session.{Session}
use Rattle.o2_open.specs.Loads.{Contents, loaded}
use Rattle.o2_cli.specs.declared.status.Status.{Status}
use Rattle.o2_cli.specs.declared.status.Status.TheVariants as status
use Rattle.o2_cli.specs.Top.{Opened, Opens, Possible, IsCheck}

-- The next step has what it needs: all that lives fits the memory; or its room does, and what isn't clean fits the blocks in use,
-- those of the setting, or of the device where it has fewer.
abbrev pub HasAmple : (blocks : ℕ) → Setting → World → Type 0
HasAmple blocks s w = (live_load s w ≤ s.memory) ⊎ ((room s w ≤ s.memory) × (swap_load w ≤ min s.swap blocks))

-- each step of the run has
abbrev pub IsAmple : (blocks : ℕ) → Opened → Type 0
IsAmple blocks o = (k : ℕ) → IsBelowLast o.setting o.world k → HasAmple blocks o.setting (after o.setting o.world k)

-- all that lives fits the memory before and behind each step of the run
abbrev pub AllFit : Opened → Type 0
AllFit o = AllFitRun o.setting o.world

-- it is done, or there was no memory
abbrev pub IsDone : Status → Type 0
IsDone status.Fine = Unit {0}
IsDone status.NoMemory = Unit {0}
IsDone _ = ⊥

-- it isn't for want of memory
abbrev pub HasMemory : Status → Type 0
HasMemory status.NoMemory = ⊥
HasMemory _ = Unit {0}

-- a command that runs: it opens, each step has what it needs, and neither files, input, sinks nor device had a fault
abbrev pub Completes : List (String Global) → Possible → (blocks : ℕ) → (left : Option (List ℕ))
    → (files input sink device : Type 0) → Status → Type 0
Completes words may blocks left files input sink device result =
    (IsCheck words → ⊥) → (contents : Contents) (text : List ℕ) → may contents → left ≡ Some text
    → Opens words contents text (λ verb. IsAmple blocks)
    → (files → ⊥) → (input → ⊥) → (sink → ⊥) → (device → ⊥) → IsDone result

-- `check`: what it names is read and linked, and neither files nor sink had a fault
abbrev pub CompletesCheck : List (String Global) → Possible → (files sink : Type 0) → Status → Type 0
CompletesCheck words may files sink result =
    (contents : Contents) (name : List ℕ) (s : Session) → may contents → IsCommandFor words Check name
    → loaded Check contents name ≡ Ok s → (files → ⊥) → (sink → ⊥) → IsDone result

-- a command that runs, and whose segments are never more than its memory has place for: it opens, and all that lives fits at each step
abbrev pub InMemory : List (String Global) → Possible → (left : Option (List ℕ)) → Type 0 → Type 0
InMemory words may left P =
    (IsCheck words → ⊥) → (contents : Contents) (text : List ℕ) → may contents → left ≡ Some text
    → Opens words contents text (λ verb. AllFit) → P

-- it isn't for room or for swap, nor for a fault of the device, but where the count of these stands at its end
abbrev pub IsUnswapped : (at_end : Type 0) → Status → Type 0
IsUnswapped at_end status.NoRoom = ⊥
IsUnswapped at_end status.SwapFull = ⊥
IsUnswapped at_end status.SwapFault = at_end
IsUnswapped at_end _ = Unit {0}
