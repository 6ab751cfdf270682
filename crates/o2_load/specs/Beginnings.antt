-- What a memory of byte vectors and the first registers stand for, once all processes have started.
use Rattle.std.specs.Prelude.{◌≡◌, ℕ, ◌+◌, true, List, [], ◌∷◌, ◌++◌, length, Option, Some, None, Result, Ok, Err, map, slice_get}
use Rattle.o2_base.specs.declared.memory.Fail.{Fail}
use Rattle.o2_base.specs.declared.memory.Fail.TheVariants.{NoMemory, Bad}
use Rattle.o2_base.specs.declared.faults.ModuleFault.{ModuleFault}
use Rattle.o2_isa.specs.declared.cpu.Cpu.{Cpu}
use Rattle.o2_isa.specs.View.{Hold}
use Rattle.o2_bus.specs.Plain.{held_in, bytes_in, shown_in, count_in}
use Rattle.o2_dynlink.specs.Outcome.{LinkedParts}
use Rattle.o2_world.specs.declared.types.State.TheVariants.{Live}
use Rattle.o2_world.specs.World.{Process, Line}
use Rattle.o2_world.specs.Views.{holds_in, bytes_in as bytes_of}
use Rattle.o2_world.specs.Opening.{start_lines}
use Rattle.o2_world.specs.Starts.{Built}
use Rattle.o2_load.specs.declared.begun.Begun.{Begun}
use Rattle.o2_load.specs.declared.starting.StartFault.{StartFault}
use Rattle.o2_load.specs.Loads.{loaded, program_place}

pub record IsFirst (c : Cpu) (holds : ℕ → Option Hold) (p : Process) : Type 0 where
  pub cpu : p.cpu ≡ c
  pub state : p.state ≡ Live
  pub held : (j : ℕ) → holds_in p.held j ≡ holds j

-- at one place: a process that has started, or none, which holds nothing
abbrev pub IsFirstAt : Option Cpu → (ℕ → Option Hold) → Option Process → Type 0
IsFirstAt (Some c) holds (Some p) = IsFirst c holds p
IsFirstAt None holds None = (j : ℕ) → ◌≡◌ {A = Option Hold} None (holds j)
IsFirstAt (Some c) holds None = ⊥
IsFirstAt None holds (Some p) = ⊥

-- the name of the program of a process
abbrev pub program_name : LinkedParts → ℕ → List ℕ
program_name l pid = (loaded l.images (program_place l pid)).name

-- the lines of the starts from process `pid` on, by the selectors of each
abbrev pub lines_from : LinkedParts → ℕ → List (List ℕ) → List Line
lines_from l pid [] = []
lines_from l pid (xs ∷ xss) = start_lines pid (program_name l pid) xs ++ lines_from l (pid + 1) xss

pub record IsBegun (m : Begun) (l : LinkedParts) (b : Built) : Type 0 where
  pub count : count_in m.plain ≡ b.next_name
  pub bytes : (n : ℕ) → bytes_of b.names n ≡ bytes_in m.plain n
  pub shown : (n : ℕ) → shown_in m.plain n ≡ true
  pub none : (j : ℕ) → ◌≡◌ {A = Option Hold} None (held_in m.plain 0 j)
  pub places : (i : ℕ) → IsFirstAt (slice_get m.cpus.items i) (held_in m.plain (i + 1)) (slice_get b.processes i)
  pub same : length b.processes ≡ length m.cpus.items
  pub rows : length m.starts.items ≡ length m.cpus.items
  pub lines : b.lines ≡ lines_from l 1 (map (λ v. v.items) m.starts.items)

-- all processes, or the refusal of the first that is refused
abbrev pub BeginsAll : LinkedParts → Result Built (ℕ × ModuleFault) → Result Begun (Fail StartFault) → Type 0
BeginsAll l all (Ok m) = (b : Built) × ((all ≡ Ok b) × IsBegun m l b)
BeginsAll l all (Err (Bad f)) = all ≡ Err (f.pid, f.fault)
BeginsAll l all (Err NoMemory) = Unit {0}
