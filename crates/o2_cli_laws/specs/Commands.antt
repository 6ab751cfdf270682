-- The run alone of a process of what a command opens.
use Rattle.std.specs.Prelude.{◌≡◌, ℕ, ◌-◌, ◌<◌, ◌≤◌, List, length, slice_get, Some, Ok}
use Rattle.o2_words.specs.declared.words.Verb.TheVariants.{Run}
use Rattle.o2_world.specs.World.{World}
use Rattle.o2_world.specs.Starts.{Start}
use Rattle.o2_load.specs.Loads.{library_ranges, starts_of}
use Rattle.o2_machine.specs.Begins.{opening, setting_of}
use Rattle.o2_alone.specs.Isolation.{IsIsolated}
use Rattle.o2_isolation.specs.Strangers.{IsStranger, StaysApart}
use Rattle.o2_open.specs.declared.session.Session.{Session}
use Rattle.o2_open.specs.Loads.{Contents, loaded}

-- the number is that of a process
abbrev pub IsProcess : World → ℕ → Type 0
IsProcess w number = (0 < number) × (number ≤ length w.processes)

-- A process of a session starts so, over the modules that linking gave it, and has a run alone.
pub record HasRunAlone (s : Session) (input : List ℕ) (w : World) (number : ℕ) : Type 0 where
  pub start : Start
  pub starts : slice_get (starts_of s.linked 1 s.conf.process) (number - 1) ≡ Some start
  pub stranger : IsStranger (setting_of s.conf) (library_ranges s.linked) input number start w

-- The machine file `other` opens and starts, and its run is that of process 1 of this session, for as long as this stays apart.
pub record RunsAsOnly (contents : Contents) (other input : List ℕ) (s : Session) (w : World) : Type 0 where
  pub only : Session
  pub opens : loaded Run contents other ≡ Ok only
  pub setting : setting_of only.conf ≡ setting_of s.conf
  pub alone : World
  pub starts : opening only.linked only.conf input ≡ Ok alone
  pub isolated : (k : ℕ) → StaysApart (setting_of s.conf) w alone 1 k → IsIsolated (setting_of s.conf) w alone 1 k
