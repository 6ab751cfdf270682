-- What one step of a process does to the machine and to both sinks, by its answer, for the effect that it has in the world.
use Rattle.std.specs.Prelude.{◌≡◌, ◌⊎◌, ◌==◌, ℕ, Bool, false, List, if◌then◌else◌, Option, Some, Result, Ok, Err}
use Rattle.o2_conf.specs.Dispatch.{Dispatch}
use Rattle.o2_outer.specs.Texts.{Gains, GainsSome, IsPrefix}
use Rattle.o2_isa.specs.declared.cpu.Cpu.{Cpu}
use Rattle.o2_isa.specs.Presence.{SameSelectors}
use Rattle.o2_regions.specs.Lives.{lives}
use Rattle.o2_store.specs.Shelf.{Shelf}
use Rattle.o2_world.specs.World.{Process, World, is_live}
use Rattle.o2_world.specs.Text.{lines_text}
use Rattle.o2_world.specs.Calls.{Before, Effect}
use Rattle.o2_world.specs.Effect.{AsksInput, effect}
use Rattle.o2_world.specs.Run.{changed}
use Rattle.o2_shared.specs.declared.names.Name.{Name}
use Rattle.o2_calls.specs.SharedActs.{AreSpelled}
use Rattle.o2_run.specs.declared.steps.Stop.TheVariants as stop
use Rattle.o2_run.specs.declared.fault.Fault.{Fault}
use Rattle.o2_run.specs.declared.fault.Fault.TheVariants as fault
use Rattle.o2_stepping.specs.Ran.{TakesText}
use Rattle.o2_stepping.specs.Tallies.{IsTally}
use Rattle.o2_stepping.specs.declared.one_step.Ran.{Ran}
use Rattle.o2_stands.specs.Parts.{Parts}
use Rattle.o2_stands.specs.Stands.{Stands}
use Rattle.o2_space.specs.Stands.{MatchesAfter}

-- the step is made; where a sink failed in one of its lines, the report has a front of them
pub record ActsAll (w : World) (number : ℕ) (x : Process) (e : Effect) (ran : Ran) (p : Parts)
    (left console_old console_new report_old report_new : Option (List ℕ)) : Type 0 where
  pub state : e.state ≡ ran.state
  pub puts : IsTally e ran.tally
  pub matches : MatchesAfter w number x e p
  pub input : left ≡ Some e.input
  pub to_console : Gains console_old console_new e.piece
  pub to_report : TakesText ran.whole report_old report_new (lines_text e.lines)

-- a sink failed: the machine stands for the same world, the input is as the effect leaves it, and both texts are
-- fronts, the report's only behind the whole piece; the effect leaves the segment registers as they were
pub record ActsInPart (w : World) (e : Effect) (before : Cpu) (p : Parts)
    (left_old left_new console_old console_new report_old report_new : Option (List ℕ)) : Type 0 where
  pub stands : Stands p w
  pub input : left_new ≡ Some e.input
  pub to_console : GainsSome console_old console_new (λ front. IsPrefix front e.piece)
  pub to_report : GainsSome report_old report_new (λ front. IsPrefix front (lines_text e.lines))
  pub in_order : (report_new ≡ report_old) ⊎ Gains console_old console_new e.piece
  pub selectors : SameSelectors e.cpu before

-- no step is made: the machine stands for the same world, and nothing is taken or put
pub record Stays (w : World) (p : Parts) (left_old left_new console_old console_new report_old report_new : Option (List ℕ)) : Type 0 where
  pub stands : Stands p w
  pub input : left_new ≡ left_old
  pub to_console : console_new ≡ console_old
  pub to_report : report_new ≡ report_old

-- the input failed, in a step that asks it
pub record StaysUnread (b : Before) (w : World) (p : Parts)
    (left_old left_new console_old console_new report_old report_new : Option (List ℕ)) : Type 0 where
  pub cause : AsksInput b
  pub still : Stays w p left_old left_new console_old console_new report_old report_new

abbrev pub ActsFault : Before → World → Parts → (left_old left_new console_old console_new report_old report_new : Option (List ℕ)) → Fault → Type 0
ActsFault b w p i j c d r q fault.Sink = ActsInPart w (effect b) b.cpu p i j c d r q
ActsFault b w p i j c d r q (fault.Stopped stop.Input) = StaysUnread b w p i j c d r q
ActsFault b w p i j c d r q (fault.Stopped stop.NoRoom) = Stays w p i j c d r q
ActsFault b w p i j c d r q (fault.Stopped stop.SwapFull) = Stays w p i j c d r q
ActsFault b w p i j c d r q (fault.Stopped stop.SwapFault) = Stays w p i j c d r q

-- from a machine that stands for a world, of a process there that starts its step from this
abbrev pub Acts : Before → World → Process → Parts → (left_old left_new console_old console_new report_old report_new : Option (List ℕ))
    → Result Ran Fault → Type 0
Acts b w x p i j c d r q (Ok ran) = ActsAll w b.number x (effect b) ran p j c d r q
Acts b w x p i j c d r q (Err f) = ActsFault b w p i j c d r q f

-- how many segments a step makes at most: none where it isn't taken
abbrev pub made_by : {T : Type 0} → Result T Fault → ℕ
made_by (Ok x) = 4096
made_by (Err f) = 0

-- how many holds more it has of what is held, at most: one, and none where it isn't taken
abbrev pub holds_by : {T : Type 0} → Result T Fault → ℕ
holds_by (Ok x) = 1
holds_by (Err f) = 0

-- Who is marked live behind a step of a process: where the step ended it, all but this one that were, and else all that were.
abbrev pub AreMarkedBehind : (old new : List Bool) → (pid : ℕ) → Result Ran Fault → Type 0
AreMarkedBehind old new pid (Ok ran) = (n : ℕ) → lives new n ≡ (if is_live ran.state then lives old n else (if n == pid then false else lives old n))
AreMarkedBehind old new pid (Err f) = (n : ℕ) → lives new n ≡ lives old n

-- The names of shared segments that are kept behind a step of a process are those of the world's texts there.
abbrev pub SpellsBehind : Before → World → Process → Shelf → List (Option Name) → Result Ran Fault → Type 0
SpellsBehind b w x t names (Ok ran) = (d : Dispatch) → d.current ≡ b.number → AreSpelled t names (changed w d x (effect b))
SpellsBehind b w x t names (Err f) = AreSpelled t names w
