-- How a machine begins.
use Rattle.std.specs.Prelude.{◌≡◌, ◌≤◌, ℕ, ◌+◌, List, length, Option, None, Result, Ok, Err, min}
use Rattle.o2_base.specs.declared.faults.ModuleFault.{ModuleFault}
use Rattle.o2_conf.specs.declared.conf.Conf.{Conf}
pub use Rattle.o2_dynlink.specs.Linking.{IsLinked}
use Rattle.o2_dynlink.specs.Outcome.{LinkedParts}
use Rattle.o2_outer.specs.Texts.{Gains, GainsSome, IsPrefix}
use Rattle.o2_store.specs.Idle.{NoneTaken}
use Rattle.o2_world.specs.World.{Line, World, Setting}
use Rattle.o2_world.specs.Text.{lines_text}
use Rattle.o2_run.specs.Pieces.{FailsInLine}
use Rattle.o2_world.specs.Starts.{Built, all_started, world_of, opening_of}
use Rattle.o2_load.specs.Loads.{starts_of, library_ranges}
use Rattle.o2_machine.specs.declared.fault.BeginFault.{BeginFault}
use Rattle.o2_machine.specs.declared.fault.BeginFault.TheVariants as begin_fault
use Rattle.o2_machine.specs.declared.machine.Machine.{Machine}
use Rattle.o2_machine.specs.GoesOver.{GoesOver}
use Rattle.o2_machine.specs.StandsFor.{StandsFor}

-- what a run takes from the machine file
abbrev pub setting_of : Conf → Setting
setting_of c = record { quantum = c.quantum; memory = c.memory; swap = c.swap; segments = c.segments; avail = c.avail; budget = c.budget }

-- the starts of a setting's processes
abbrev pub starting : LinkedParts → Conf → Result Built (ℕ × ModuleFault)
starting l c = all_started c.segments (starts_of l 1 c.process)

-- the world that they open, with this input
abbrev pub first_world : LinkedParts → Conf → List ℕ → Built → World
first_world l c input b = world_of (library_ranges l) c.script c.budget input b

-- the world before the first step, or the process that is refused, and why
abbrev pub opening_in : Setting → LinkedParts → Conf → List ℕ → Result World (ℕ × ModuleFault)
opening_in s l c input = opening_of s (library_ranges l) c.script input (starts_of l 1 c.process)

abbrev pub opening : LinkedParts → Conf → List ℕ → Result World (ℕ × ModuleFault)
opening l c input = opening_in (setting_of c) l c input

-- All processes have started, and the lines of their starts are put. The machine is made for `blocks` blocks of its device, or for
-- as many as the setting has, where these are fewer. It stands for the first world over each device of which that leaves as many,
-- whatever they hold, and goes on over each device that has as many. It has nothing in its blocks.
pub record HasBegun (m : Machine) (l : LinkedParts) (c : Conf) (blocks : ℕ) (report_old report_new : Option (List ℕ)) : Type 0 where
  pub built : Built
  pub starts : starting l c ≡ Ok built
  pub stands : (device : ℕ) → min c.swap device ≡ min c.swap blocks → (block : ℕ → List ℕ) (input : List ℕ)
      → StandsFor m device block (setting_of c) (first_world l c input built)
  pub goes_on : (device : ℕ) → min c.swap blocks ≤ device → GoesOver m.space m.sched device
  pub unused : NoneTaken m.space.store.swap
  pub images : m.space.images ≡ l.images
  pub fresh : m.last ≡ None
  pub to_report : Gains report_old report_new (lines_text built.lines)

-- a sink failed among those lines
pub record HasBegunInPart (l : LinkedParts) (c : Conf) (report_old report_new : Option (List ℕ)) : Type 0 where
  pub built : Built
  pub starts : starting l c ≡ Ok built
  pub to_report : GainsSome report_old report_new (λ front. IsPrefix front (lines_text built.lines))

abbrev pub Begins : LinkedParts → Conf → (blocks : ℕ) → (report_old report_new : Option (List ℕ)) → Result Machine BeginFault → Type 0
Begins l c blocks r q (Ok m) = HasBegun m l c blocks r q
Begins l c blocks r q (Err (begin_fault.Start pid fault)) = (starting l c ≡ Err (pid, fault)) × (q ≡ r)
Begins l c blocks r q (Err begin_fault.SinkFault) = HasBegunInPart l c r q
Begins l c blocks r q (Err begin_fault.NoMemory) = q ≡ r

abbrev pub OnSinkFault : Result Machine BeginFault → Type 0 → Type 0
OnSinkFault (Err begin_fault.SinkFault) P = P
OnSinkFault _ P = Unit {0}

-- where nothing has begun, for a refusal or for want of memory
abbrev pub OnUnbegun : Result Machine BeginFault → Type 0 → Type 0
OnUnbegun (Err (begin_fault.Start pid fault)) P = P
OnUnbegun (Err begin_fault.NoMemory) P = P
OnUnbegun _ P = Unit {0}

-- each line of the starts is one put; where one failed, those in front of it were put whole, and none behind it was put
abbrev pub BeginPuts : List Line → (report_old report_new : Option (List ℕ)) → (before now : ℕ) → Result Machine BeginFault → Type 0
BeginPuts lines r q before now (Ok m) = now ≡ before + length lines
BeginPuts lines r q before now (Err begin_fault.SinkFault) = FailsInLine lines r q before now
BeginPuts lines r q before now (Err (begin_fault.Start pid fault)) = now ≡ before
BeginPuts lines r q before now (Err begin_fault.NoMemory) = now ≡ before
