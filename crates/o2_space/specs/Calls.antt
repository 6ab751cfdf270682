-- A call on segments by a process of a space.
use Rattle.std.specs.Prelude.{◌≡◌, ℕ, true, List, Option, Result, Ok, Err}
use Rattle.o2_conf.specs.Dispatch.{Dispatch}
use Rattle.o2_isa.specs.declared.cpu.Cpu.{Cpu}
use Rattle.o2_regions.specs.declared.answer.Answer.{Answer}
use Rattle.o2_world.specs.declared.types.State.TheVariants.{Live}
use Rattle.o2_world.specs.Known.{known_of}
use Rattle.o2_world.specs.Run.{before, changed}
use Rattle.o2_world.specs.World.{Process, Setting, World}
use Rattle.o2_gate.specs.declared.requests.SegmentArguments.{SegmentArguments}
use Rattle.o2_gate.specs.declared.arguments.Arguments.{Arguments}
use Rattle.o2_run.specs.declared.fault.Fault.{Fault}
use Rattle.o2_run.specs.Room.{Fits}
use Rattle.o2_shared.specs.declared.names.Name.{Name}
use Rattle.o2_store.specs.Shelf.{Shelf}
use Rattle.o2_segs.specs.Answers.{Answers}
use Rattle.o2_calls.specs.Acts.{ruling_of}
use Rattle.o2_calls.specs.SharedActs.{LeavesSpelled}
use Rattle.o2_calls.specs.Tellings.{replied_by}
use Rattle.o2_stands.specs.Moves.{with_running}
use Rattle.o2_stands.specs.Parts.{Parts}
use Rattle.o2_stands.specs.Stands.{Matches, Stands}
use Rattle.o2_space.specs.Nexts.{FaultSays}

-- registers of which none names a segment
abbrev pub no_registers : Cpu
no_registers = record { ax = 0; cx = 0; dx = 0; bx = 0; sp = 0; bp = 0; si = 0; di = 0; ip = 0; flags = 0; cs = 0; ds = 0; es = 0; ss = 0 }

-- the call is made, and its process has these registers once they are written back
pub record IsCalled (s : Setting) (w : World) (number : ℕ) (x : Process) (a : Arguments) (next : ℕ) (registers : Cpu) (p : Parts) (answer : Answer) : Type 0 where
  pub answers : Answers (ruling_of a.request (known_of s w) number x.cpu) answer
  pub cpu : registers ≡ (replied_by a (before s w number x) next).cpu
  pub matches : (d : Dispatch) → d.current ≡ number
      → Matches (with_running p number (record { cpu = registers; state = Live })) (changed w d x (replied_by a (before s w number x) next))

-- by the answer; at a fault the parts stand for the same world
abbrev pub Makes : Setting → World → (number : ℕ) → Process → Arguments → (next : ℕ) → Cpu → Parts → Result Answer Fault → Type 0
Makes s w number x a next registers p (Ok answer) = IsCalled s w number x a next registers p answer
Makes s w number x a next registers p (Err f) = Stands p w

-- the world's next step fits where the call is made, and what lacks at a stop lacks in the world
abbrev pub SaysCall : (device : ℕ) → Setting → World → Result Answer Fault → Type 0
SaysCall device s w (Ok answer) = Fits true s w
SaysCall device s w (Err f) = FaultSays device s w f

-- What is left of the names of shared segments that were kept, in the world with the changes of the call; at a fault all of them.
abbrev pub MakesNames : SegmentArguments → Shelf → (old new : List (Option Name)) → World → Result Answer Fault → Type 0
MakesNames a t old new w (Ok answer) = LeavesSpelled a t old new w
MakesNames a t old new w (Err f) = new ≡ old
