-- Between a step of a process and its commit.
use Rattle.std.specs.Prelude.{◌≡◌, ℕ, List, [], Option, Some, Result, Ok, Err}
use Rattle.o2_isa.specs.declared.cpu.Cpu.{Cpu}
use Rattle.o2_outer.specs.Texts.{Gains}
use Rattle.o2_world.specs.World.{World}
use Rattle.o2_world.specs.Text.{lines_text}
use Rattle.o2_world.specs.Views.{with_bytes}
use Rattle.o2_world.specs.Calls.{Before, Effect}
use Rattle.o2_world.specs.Effect.{effect, single_stepped}
use Rattle.o2_gate.specs.declared.arguments.Arguments.{Arguments}
use Rattle.o2_gate.specs.Targets.{asked}
use Rattle.o2_run.specs.declared.fault.Fault.{Fault}
use Rattle.o2_stepping.specs.Ran.{IsCallOf, TakesText}
use Rattle.o2_stepping.specs.Tallies.{IsTally}
use Rattle.o2_stepping.specs.declared.one_step.Ran.{Ran}
use Rattle.o2_stepping.specs.declared.one_step.Stepped.{Stepped}
use Rattle.o2_stepping.specs.declared.one_step.Stepped.TheVariants as stepped
use Rattle.o2_stands.specs.Parts.{Parts}
use Rattle.o2_stands.specs.Stands.{StandsIn}
use Rattle.o2_space.specs.Acts.{ActsFault, Stays}

-- the bytes are those of the effect, and so are the registers that aren't written back yet; all else is as before
pub record IsBetween (w : World) (e : Effect) (ran : Ran) (registers : Cpu) (p : Parts)
    (left console_old console_new report_old report_new : Option (List ℕ)) : Type 0 where
  pub state : e.state ≡ ran.state
  pub puts : IsTally e ran.tally
  pub changes : e.changes ≡ []
  pub cpu : registers ≡ e.cpu
  pub stands : StandsIn p w.processes (with_bytes w.names e.bytes) w.next_name w.reserved
  pub input : left ≡ Some e.input
  pub to_console : Gains console_old console_new e.piece
  pub to_report : TakesText ran.whole report_old report_new (lines_text e.lines)

-- the step is a call on segments with these arguments, and nothing is changed, taken or put yet
pub record IsAskedFor (b : Before) (w : World) (a : Arguments) (next : ℕ) (registers : Cpu) (p : Parts)
    (left_old left_new console_old console_new report_old report_new : Option (List ℕ)) : Type 0 where
  pub effect : effect b ≡ single_stepped b (asked a b next)
  pub called : IsCallOf b a next
  pub cpu : registers ≡ b.cpu
  pub still : Stays w p left_old left_new console_old console_new report_old report_new

-- by the answer; a fault is final
abbrev pub Steps : Before → World → Cpu → Parts → (left_old left_new console_old console_new report_old report_new : Option (List ℕ))
    → Result Stepped Fault → Type 0
Steps b w cpu p i j c d r q (Ok (stepped.Ran ran)) = IsBetween w (effect b) ran cpu p j c d r q
Steps b w cpu p i j c d r q (Ok (stepped.Asked a next)) = IsAskedFor b w a next cpu p i j c d r q
Steps b w cpu p i j c d r q (Err f) = ActsFault b w p i j c d r q f
