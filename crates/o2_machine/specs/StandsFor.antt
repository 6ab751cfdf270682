-- The machine stands for a world, whatever its console, its report and its input are.
use Rattle.std.specs.Prelude.{◌≡◌, ℕ, List, length}
use Rattle.o2_calls.specs.SharedActs.{AreSpelled}
use Rattle.o2_gate.specs.Befores.{IsKnown}
use Rattle.o2_stands.specs.Stands.{IsSetTo, Stands}
use Rattle.o2_space.specs.Parts.{parts_in}
use Rattle.o2_world.specs.Known.{known_of}
use Rattle.o2_world.specs.Reach.{IsTold}
use Rattle.o2_world.specs.Tied.{IsSound}
use Rattle.o2_world.specs.World.{World, Setting}
use Rattle.o2_world.specs.Run.{live_flags}
use Rattle.o2_machine.specs.declared.machine.Machine.{Machine}

-- over a device of so many blocks, which hold this
pub record StandsFor (m : Machine) (device : ℕ) (block : ℕ → List ℕ) (s : Setting) (w : World) : Type 0 where
  -- store, what each process holds, its registers and its state, and as much memory, names and blocks as the setting says
  pub space : Stands (parts_in m.space device block) w
  -- what holds of every world of a run
  pub sound : IsSound w
  -- what is held is what the lines of the report tell
  pub told : IsTold w
  pub set : IsSetTo (parts_in m.space device block) s
  pub flags : live_flags w.processes ≡ m.sched.flags
  pub dispatch : w.dispatch ≡ m.sched.dispatch
  pub quantum : s.quantum ≡ m.sched.quantum
  pub known : IsKnown (known_of s w) m.space.services
  -- the names that are kept of shared segments are those of the texts
  pub spells : AreSpelled m.space.store m.space.names w
  pub budget : s.budget ≡ m.budget
  -- as many bytes and lines are counted as both texts have, without the last line
  pub console : length w.console ≡ m.console_bytes
  pub lines : length w.lines ≡ m.lines
