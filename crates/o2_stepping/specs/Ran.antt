-- What one step of a process did to its registers, the bytes and both sinks.
use Rattle.std.specs.Prelude.{◌⊎◌, ◌≡◌, ℕ, Bool, true, false, List, [], Option, Some, Result, Ok, Err}
use Rattle.o2_base.specs.declared.selector.Selector.{Selector}
use Rattle.o2_outer.specs.Texts.{Gains, GainsSome, IsPrefix}
use Rattle.o2_isa.specs.declared.cpu.Cpu.{Cpu}
use Rattle.o2_isa.specs.Presence.{IsMissed, SameSelectors}
use Rattle.o2_isa.specs.View.{View, Filling}
use Rattle.o2_isa.specs.declared.cpu.Stop.TheVariants.{Gate}
use Rattle.o2_isa.specs.Step.{stepped}
use Rattle.o2_isa.specs.Steps.{state}
use Rattle.o2_world.specs.World.{is_live}
use Rattle.o2_world.specs.Calls.{Before, Effect, row_of, serviced}
use Rattle.o2_world.specs.Effect.{AsksInput, single_stepped}
use Rattle.o2_world.specs.Text.{lines_text}
use Rattle.o2_gate.specs.declared.arguments.Arguments.{Arguments}
use Rattle.o2_gate.specs.Targets.{asked, targets}
use Rattle.o2_gate.specs.Pointed.{ArePresent}
use Rattle.o2_run.specs.declared.steps.Stop.TheVariants as stop
use Rattle.o2_run.specs.declared.fault.Fault.{Fault}
use Rattle.o2_run.specs.declared.fault.Fault.TheVariants as fault
use Rattle.o2_run.specs.Faults.{CauseOf}
use Rattle.o2_run.specs.Room.{call_names, pointed}
use Rattle.o2_stepping.specs.Tallies.{IsTally}
use Rattle.o2_stepping.specs.declared.one_step.Ran.{Ran}
use Rattle.o2_stepping.specs.declared.one_step.Attempt.{Attempt}
use Rattle.o2_stepping.specs.declared.one_step.Attempt.TheVariants as attempt
use Rattle.o2_stepping.specs.declared.one_step.Stepped.{Stepped}
use Rattle.o2_stepping.specs.declared.one_step.Stepped.TheVariants as stepped

-- the report took a text whole, or a front of it
abbrev pub TakesText : (whole : Bool) → (report_old report_new : Option (List ℕ)) → List ℕ → Type 0
TakesText true r q text = Gains r q text
TakesText false r q text = GainsSome r q (λ front. IsPrefix front text)

-- the effect is made, which changes nothing but bytes; where a sink failed in its last line, which ends the process, the report has a
-- front of its lines
pub record IsDone (e : Effect) (ran : Ran) (registers : Cpu) (after : ℕ → List ℕ)
    (left console_old console_new report_old report_new : Option (List ℕ)) : Type 0 where
  pub state : e.state ≡ ran.state
  pub ends : ran.whole ≡ false → is_live ran.state ≡ false
  pub puts : IsTally e ran.tally
  pub changes : e.changes ≡ []
  pub cpu : registers ≡ e.cpu
  pub bytes : (n : ℕ) → after n ≡ e.bytes n
  pub input : left ≡ Some e.input
  pub to_console : Gains console_old console_new e.piece
  pub to_report : TakesText ran.whole report_old report_new (lines_text e.lines)

-- nothing is changed, taken or put
pub record IsStill (registers before : Cpu) (old new : ℕ → List ℕ)
    (left_old left_new console_old console_new report_old report_new : Option (List ℕ)) : Type 0 where
  pub cpu : registers ≡ before
  pub bytes : (n : ℕ) → new n ≡ old n
  pub input : left_new ≡ left_old
  pub to_console : console_new ≡ console_old
  pub to_report : report_new ≡ report_old

-- the input failed in a step that asks it
pub record IsUnread (b : Before) (registers : Cpu) (old new : ℕ → List ℕ)
    (left_old left_new console_old console_new report_old report_new : Option (List ℕ)) : Type 0 where
  pub cause : AsksInput b
  pub still : IsStill registers b.cpu old new left_old left_new console_old console_new report_old report_new

-- a sink failed: registers and bytes are as before, the input is as the effect leaves it, and both texts are fronts,
-- the report's only behind the whole piece; the effect leaves the segment registers as they are
pub record IsInPart (e : Effect) (registers before : Cpu) (old new : ℕ → List ℕ)
    (left_old left_new console_old console_new report_old report_new : Option (List ℕ)) : Type 0 where
  pub cpu : registers ≡ before
  pub bytes : (n : ℕ) → new n ≡ old n
  pub input : left_new ≡ Some e.input
  pub to_console : GainsSome console_old console_new (λ front. IsPrefix front e.piece)
  pub to_report : GainsSome report_old report_new (λ front. IsPrefix front (lines_text e.lines))
  pub in_order : (report_new ≡ report_old) ⊎ Gains console_old console_new e.piece
  pub selectors : SameSelectors e.cpu before
  pub changes : e.changes ≡ []

-- the step comes to the gate of a call on segments, which is that with these arguments, and so are the names that it passes
pub record IsCallOf (b : Before) (a : Arguments) (next : ℕ) : Type 0 where
  pub service : ℕ
  pub from : ℕ
  pub gate : stepped (state b.cpu b.view) ≡ Err (Gate service from)
  pub asks : serviced b service from ≡ asked a b next
  pub points : call_names b (row_of service) ≡ pointed b.view (targets a)

-- the step is a call on segments with these arguments, whose pointer is good; nothing is changed, taken or put yet
pub record IsAsked (b : Before) (e : Effect) (a : Arguments) (next : ℕ) (registers : Cpu) (old new : ℕ → List ℕ)
    (left_old left_new console_old console_new report_old report_new : Option (List ℕ)) : Type 0 where
  pub effect : e ≡ single_stepped b (asked a b next)
  pub called : IsCallOf b a next
  pub still : IsStill registers b.cpu old new left_old left_new console_old console_new report_old report_new

-- a fault; a step stops for its input alone
abbrev pub LeavesFault : Before → Effect → Cpu → (old new : ℕ → List ℕ)
    → (left_old left_new console_old console_new report_old report_new : Option (List ℕ)) → Fault → Type 0
LeavesFault b e cpu old new i j c d r q fault.Sink = IsInPart e cpu b.cpu old new i j c d r q
LeavesFault b e cpu old new i j c d r q (fault.Stopped stop.Input) = IsUnread b cpu old new i j c d r q
LeavesFault b e cpu old new i j c d r q (fault.Stopped stop.NoRoom) = ⊥
LeavesFault b e cpu old new i j c d r q (fault.Stopped stop.SwapFull) = ⊥
LeavesFault b e cpu old new i j c d r q (fault.Stopped stop.SwapFault) = ⊥

-- by the answer, where nothing can be missed
abbrev pub LeavesRan : Before → Effect → Cpu → (old new : ℕ → List ℕ)
    → (left_old left_new console_old console_new report_old report_new : Option (List ℕ)) → Result Ran Fault → Type 0
LeavesRan b e cpu old new i j c d r q (Ok ran) = IsDone e ran cpu new j c d r q
LeavesRan b e cpu old new i j c d r q (Err f) = LeavesFault b e cpu old new i j c d r q f

-- a step that is done, or asks for a call on segments
abbrev pub StepLeaves : Before → Effect → Cpu → (old new : ℕ → List ℕ)
    → (left_old left_new console_old console_new report_old report_new : Option (List ℕ)) → Stepped → Type 0
StepLeaves b e cpu old new i j c d r q (stepped.Ran ran) = IsDone e ran cpu new j c d r q
StepLeaves b e cpu old new i j c d r q (stepped.Asked a next) = IsAsked b e a next cpu old new i j c d r q

-- by the answer
abbrev pub Leaves : Before → Effect → Cpu → (old new : ℕ → List ℕ)
    → (left_old left_new console_old console_new report_old report_new : Option (List ℕ)) → Result Attempt Fault → Type 0
Leaves b e cpu old new i j c d r q (Ok (attempt.Stepped x)) = StepLeaves b e cpu old new i j c d r q x
Leaves b e cpu old new i j c d r q (Ok (attempt.Missed s)) = IsStill cpu b.cpu old new i j c d r q
Leaves b e cpu old new i j c d r q (Err f) = LeavesFault b e cpu old new i j c d r q f

-- where a step is missed
abbrev pub OnMissed : Result Attempt Fault → (Selector → Type 0) → Type 0
OnMissed (Ok (attempt.Missed s)) P = P s
OnMissed (Ok (attempt.Stepped x)) P = Unit {0}
OnMissed (Err f) P = Unit {0}

-- where a call on segments is asked for
abbrev pub OnAsking : Stepped → (Arguments → Type 0) → Type 0
OnAsking (stepped.Asked a next) P = P a
OnAsking (stepped.Ran ran) P = Unit {0}

abbrev pub OnAsked : Result Attempt Fault → (Arguments → Type 0) → Type 0
OnAsked (Ok (attempt.Stepped x)) P = OnAsking x P
OnAsked (Ok (attempt.Missed s)) P = Unit {0}
OnAsked (Err f) P = Unit {0}

-- where a step isn't done yet: a segment is missed, or a call on segments is asked for
abbrev pub OnUndone : Result Attempt Fault → Type 0 → Type 0
OnUndone (Ok (attempt.Missed s)) P = P
OnUndone (Ok (attempt.Stepped x)) P = OnAsking x (λ a. P)
OnUndone (Err f) P = Unit {0}

-- where a segment is missed it is behind one of these names, and at every other answer all of them are present
abbrev pub TellsTried : View → (Filling → List ℕ) → Result Attempt Fault → Type 0
TellsTried v names (Ok (attempt.Missed s)) = (f : Filling) → IsMissed v s (names f)
TellsTried v names (Ok (attempt.Stepped x)) = (f : Filling) → ArePresent v (names f)
TellsTried v names (Err f) = (g : Filling) → ArePresent v (names g)

-- whether it is missed
abbrev pub is_missed : Result Attempt Fault → Bool
is_missed (Ok (attempt.Missed s)) = true
is_missed (Ok (attempt.Stepped x)) = false
is_missed (Err f) = false

-- the causes of a fault, and of a last line that isn't put whole; a step stops for its input alone
abbrev pub RanFor : (sink input : Type 0) → Result Ran Fault → Type 0
RanFor sink input (Ok ran) = ran.whole ≡ false → sink
RanFor sink input (Err f) = CauseOf sink input ⊥ ⊥ f

abbrev pub StepFor : (sink : Type 0) → Stepped → Type 0
StepFor sink (stepped.Ran ran) = ran.whole ≡ false → sink
StepFor sink (stepped.Asked a next) = Unit {0}

abbrev pub AttemptFor : (sink input : Type 0) → Result Attempt Fault → Type 0
AttemptFor sink input (Ok (attempt.Stepped x)) = StepFor sink x
AttemptFor sink input (Ok (attempt.Missed s)) = Unit {0}
AttemptFor sink input (Err f) = CauseOf sink input ⊥ ⊥ f
