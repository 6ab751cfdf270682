-- What a memory, the first registers and the selectors stand for, once some processes have started.
use Rattle.std.specs.Prelude.{◌≡◌, ℕ, ◌+◌, ◌≤◌, List, [], length, map, Option, Some, None, Result, Ok, Err, slice_get}
use Rattle.o2_base.specs.declared.memory.Fail.{Fail}
use Rattle.o2_base.specs.declared.memory.Fail.TheVariants.{NoMemory, Bad}
use Rattle.o2_base.specs.declared.faults.ModuleFault.{ModuleFault}
use Rattle.o2_isa.specs.declared.cpu.Cpu.{Cpu}
use Rattle.o2_dynlink.specs.Outcome.{LinkedParts}
use Rattle.o2_world.specs.declared.types.State.TheVariants.{Live}
use Rattle.o2_world.specs.Map.{get}
use Rattle.o2_world.specs.World.{Process, Held}
use Rattle.o2_world.specs.Starts.{Built}
use Rattle.o2_load.specs.declared.progress.Progress.{Progress}
use Rattle.o2_load.specs.declared.starting.StartFault.{StartFault}
use Rattle.o2_load.specs.Memory.{Memory}
use Rattle.o2_load.specs.Holds.{Names, Stage, stage}
use Rattle.o2_load.specs.Beginnings.{lines_from}

pub record IsStarted (c : Cpu) (holds : ℕ → Option Held) (p : Process) : Type 0 where
  pub cpu : p.cpu ≡ c
  pub state : p.state ≡ Live
  pub held : (j : ℕ) → get p.held j ≡ holds j

-- at one place: a process that has started, or none, which holds nothing
abbrev pub IsStartedAt : Option Cpu → (ℕ → Option Held) → Option Process → Type 0
IsStartedAt (Some c) holds (Some p) = IsStarted c holds p
IsStartedAt None holds None = (j : ℕ) → ◌≡◌ {A = Option Held} None (holds j)
IsStartedAt (Some c) holds None = ⊥
IsStartedAt None holds (Some p) = ⊥

-- what starts have come to: the memory with its lists, and the registers and selectors of the processes that have started
pub record Course : Type 0 where
  pub at : Stage
  pub cpus : List Cpu
  pub starts : List (List ℕ)

abbrev pub course : {S : Type 0} → Memory → Progress S → Course
course m p = record { at = stage m p.build; cpus = p.cpus.items; starts = map (λ v. v.items) p.starts.items }

-- it is what these starts build, with so many names at most
pub record HasCome (names : Names) (x : Course) (l : LinkedParts) (bound : ℕ) (b : Built) : Type 0 where
  pub count : x.at.memory.count ≡ b.next_name
  pub most : x.at.memory.most ≡ bound
  pub fits : x.at.memory.count ≤ x.at.memory.most
  pub named : (n : ℕ) → names n (get b.names n)
  pub made : b.made ≡ x.at.made
  pub none : (j : ℕ) → ◌≡◌ {A = Option Held} None (x.at.memory.held 0 j)
  pub places : (i : ℕ) → IsStartedAt (slice_get x.cpus i) (x.at.memory.held (i + 1)) (slice_get b.processes i)
  pub idle : b.held ≡ []
  pub ready : b.selectors ≡ []
  pub fresh : x.at.selectors ≡ []
  pub same : length b.processes ≡ length x.cpus
  pub rows : length x.starts ≡ length x.cpus
  pub lines : b.lines ≡ lines_from l 1 x.starts

-- one process more, or its refusal
abbrev pub ComesAs : Names → Course → LinkedParts → (most : ℕ) → Result Built (ℕ × ModuleFault) → (pid : ℕ) → Result (Unit {0}) (Fail ModuleFault) → Type 0
ComesAs names x l most next pid (Ok done) = (b : Built) × ((next ≡ Ok b) × HasCome names x l most b)
ComesAs names x l most next pid (Err (Bad fault)) = next ≡ Err (pid, fault)
ComesAs names x l most next pid (Err NoMemory) = Unit {0}

-- one process more, or its refusal with its number
abbrev pub ComesOn : Names → Course → LinkedParts → (most : ℕ) → Result Built (ℕ × ModuleFault) → Result (Unit {0}) (Fail StartFault) → Type 0
ComesOn names x l most next (Ok done) = (b : Built) × ((next ≡ Ok b) × HasCome names x l most b)
ComesOn names x l most next (Err (Bad f)) = next ≡ Err (f.pid, f.fault)
ComesOn names x l most next (Err NoMemory) = Unit {0}

-- no names, and nothing is held
pub record IsEmpty (names : Names) (m : Memory) : Type 0 where
  pub count : m.count ≡ 0
  pub named : (n : ℕ) → names n None
  pub held : (pid i : ℕ) → m.held pid i ≡ None

-- all processes, or the refusal of the first that is refused
abbrev pub ComesAll : {S : Type 0} → (S → Memory) → (S → Names) → LinkedParts → (most : ℕ) → Result Built (ℕ × ModuleFault) → Result (Progress S) (Fail StartFault) → Type 0
ComesAll seen names l most all (Ok p) = (b : Built) × ((all ≡ Ok b) × HasCome (names p.build.segments) (course (seen p.build.segments) p) l most b)
ComesAll seen names l most all (Err (Bad f)) = all ≡ Err (f.pid, f.fault)
ComesAll seen names l most all (Err NoMemory) = Unit {0}
