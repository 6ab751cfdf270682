-- What a call did, by its answer and by the effect that its row gives.
use Rattle.std.specs.Prelude.{◌≡◌, ◌⊎◌, ℕ, true, false, ◌==◌, take, drop, length, [], List, Option, Some, Result, Ok, Err}
use Rattle.o2_outer.specs.Texts.{Gains, GainsSome, IsPrefix}
use Rattle.o2_outer.specs.declared.sink.Put.{Put}
use Rattle.o2_outer.specs.declared.sink.Put.TheVariants as put
use Rattle.o2_outer.specs.declared.source.Took.{Took}
use Rattle.o2_outer.specs.declared.source.Took.TheVariants as took
use Rattle.o2_isa.specs.declared.cpu.Cpu.{Cpu}
use Rattle.o2_isa.specs.Presence.{SameSelectors}
use Rattle.o2_isa.specs.View.{View, Filling, whole}
use Rattle.o2_base.specs.declared.selector.Selector.{Selector}
use Rattle.o2_world.specs.declared.types.State.{State}
use Rattle.o2_world.specs.declared.types.State.TheVariants as state
use Rattle.o2_world.specs.CallParts.{waiting}
use Rattle.o2_world.specs.Calls.{Before, Effect, trapped, trap_code, asks}
use Rattle.o2_world.specs.Text.{lines_text}
use Rattle.o2_gate.specs.declared.called.Called.{Called}
use Rattle.o2_gate.specs.declared.called.Called.TheVariants.{Back, Exited, Trap, Missed, Asked, Waits}
use Rattle.o2_gate.specs.declared.arguments.Arguments.{Arguments}
use Rattle.o2_gate.specs.Targets.{asked}
use Rattle.o2_run.specs.declared.steps.Stop.TheVariants as stop
use Rattle.o2_run.specs.declared.fault.Fault.{Fault}
use Rattle.o2_run.specs.declared.fault.Fault.TheVariants as fault

-- the effect is made whole, with so many bytes for the console and so many lines, and the process is then in this state; it isn't one
-- that waits
pub record IsMade (f : Filling) (e : Effect) (ends : State) (piece_bytes line_count : ℕ) (registers : Cpu) (after : View)
    (left console_old console_new report_old report_new : Option (List ℕ)) : Type 0 where
  pub state : e.state ≡ ends
  pub changes : e.changes ≡ []
  pub waits : e.waits ≡ false
  pub piece : length e.piece ≡ piece_bytes
  pub lines : length e.lines ≡ line_count
  pub cpu : registers ≡ e.cpu
  pub bytes : (n : ℕ) → (whole f after).bytes n ≡ e.bytes n
  pub input : left ≡ Some e.input
  pub to_console : Gains console_old console_new e.piece
  pub to_report : Gains report_old report_new (lines_text e.lines)

-- nothing is changed, taken or put
pub record IsUntouched (registers before : Cpu) (old new : View)
    (left_old left_new console_old console_new report_old report_new : Option (List ℕ)) : Type 0 where
  pub cpu : registers ≡ before
  pub view : new ≡ old
  pub input : left_new ≡ left_old
  pub to_console : console_new ≡ console_old
  pub to_report : report_new ≡ report_old

-- the effect is a trap with this error code, and nothing is changed or put
pub record IsTrap (b : Before) (e : Effect) (vector error_code : ℕ) (registers : Cpu) (old new : View)
    (left_old left_new console_old console_new report_old report_new : Option (List ℕ)) : Type 0 where
  pub effect : e ≡ trapped b vector
  pub code : error_code ≡ trap_code
  pub untouched : IsUntouched registers b.cpu old new left_old left_new console_old console_new report_old report_new

-- the effect is that of a call on segments with these arguments, and nothing is changed or put yet
pub record IsAsked (b : Before) (e : Effect) (a : Arguments) (next : ℕ) (registers : Cpu) (old new : View)
    (left_old left_new console_old console_new report_old report_new : Option (List ℕ)) : Type 0 where
  pub effect : e ≡ asked a b next
  pub untouched : IsUntouched registers b.cpu old new left_old left_new console_old console_new report_old report_new

-- the effect is that of a call that waits, and nothing is changed, taken or put
pub record IsWaiting (b : Before) (e : Effect) (registers : Cpu) (old new : View)
    (left_old left_new console_old console_new report_old report_new : Option (List ℕ)) : Type 0 where
  pub effect : e ≡ waiting b
  pub untouched : IsUntouched registers b.cpu old new left_old left_new console_old console_new report_old report_new

-- the input failed, for which there is this reason
pub record IsUnread (why : Type 0) (registers before : Cpu) (old new : View)
    (left_old left_new console_old console_new report_old report_new : Option (List ℕ)) : Type 0 where
  pub cause : why
  pub untouched : IsUntouched registers before old new left_old left_new console_old console_new report_old report_new

-- a sink failed: registers and bytes are as before, the input is as the effect leaves it, and both texts are fronts,
-- the report's only behind the whole piece; the effect leaves the segment registers as they are, changes bytes alone, and doesn't wait
pub record IsInPart (e : Effect) (registers before : Cpu) (old new : View)
    (left_old left_new console_old console_new report_old report_new : Option (List ℕ)) : Type 0 where
  pub cpu : registers ≡ before
  pub view : new ≡ old
  pub input : left_new ≡ Some e.input
  pub to_console : GainsSome console_old console_new (λ front. IsPrefix front e.piece)
  pub to_report : GainsSome report_old report_new (λ front. IsPrefix front (lines_text e.lines))
  pub in_order : (report_new ≡ report_old) ⊎ Gains console_old console_new e.piece
  pub selectors : SameSelectors e.cpu before
  pub changes : e.changes ≡ []
  pub waits : e.waits ≡ false

-- a fault, where `why` is the reason for which the input is gone to; a call stops for its input alone
abbrev pub FaultsFor : Type 0 → Before → Effect → Cpu → (old new : View)
    → (left_old left_new console_old console_new report_old report_new : Option (List ℕ)) → Fault → Type 0
FaultsFor why b e cpu old new i j c d r q fault.Sink = IsInPart e cpu b.cpu old new i j c d r q
FaultsFor why b e cpu old new i j c d r q (fault.Stopped stop.Input) = IsUnread why cpu b.cpu old new i j c d r q
FaultsFor why b e cpu old new i j c d r q (fault.Stopped stop.NoRoom) = ⊥
FaultsFor why b e cpu old new i j c d r q (fault.Stopped stop.SwapFull) = ⊥
FaultsFor why b e cpu old new i j c d r q (fault.Stopped stop.SwapFault) = ⊥

-- by the answer; what is absent is as `f` says
abbrev pub DoesFor : Type 0 → Filling → Before → Effect → Cpu → (old new : View)
    → (left_old left_new console_old console_new report_old report_new : Option (List ℕ)) → Result Called Fault → Type 0
DoesFor why f b e cpu old new i j c d r q (Ok (Back put)) = IsMade f e state.Live put 1 cpu new j c d r q
DoesFor why f b e cpu old new i j c d r q (Ok (Exited code)) = IsMade f e (state.Exited code) 0 2 cpu new j c d r q
DoesFor why f b e cpu old new i j c d r q (Ok (Trap vector code)) = IsTrap b e vector code cpu old new i j c d r q
DoesFor why f b e cpu old new i j c d r q (Ok (Missed s)) = IsUntouched cpu b.cpu old new i j c d r q
DoesFor why f b e cpu old new i j c d r q (Ok (Asked a next)) = IsAsked b e a next cpu old new i j c d r q
DoesFor why f b e cpu old new i j c d r q (Ok Waits) = IsWaiting b e cpu old new i j c d r q
DoesFor why f b e cpu old new i j c d r q (Err x) = FaultsFor why b e cpu old new i j c d r q x

abbrev pub Does : Filling → Before → Effect → Cpu → (old new : View)
    → (left_old left_new console_old console_new report_old report_new : Option (List ℕ)) → Result Called Fault → Type 0
Does f b = DoesFor (asks b ≡ true) f b

-- where a call is missed
abbrev pub OnMissed : Result Called Fault → (Selector → Type 0) → Type 0
OnMissed (Ok (Missed s)) P = P s
OnMissed (Ok (Back put)) P = Unit {0}
OnMissed (Ok (Exited code)) P = Unit {0}
OnMissed (Ok (Trap vector code)) P = Unit {0}
OnMissed (Ok (Asked a next)) P = Unit {0}
OnMissed (Ok Waits) P = Unit {0}
OnMissed (Err x) P = Unit {0}

-- where a call on segments is asked for
abbrev pub OnAsked : Result Called Fault → (Arguments → Type 0) → Type 0
OnAsked (Ok (Asked a next)) P = P a
OnAsked (Ok (Missed s)) P = Unit {0}
OnAsked (Ok (Back put)) P = Unit {0}
OnAsked (Ok (Exited code)) P = Unit {0}
OnAsked (Ok (Trap vector code)) P = Unit {0}
OnAsked (Ok Waits) P = Unit {0}
OnAsked (Err x) P = Unit {0}

-- where nothing is done yet: a segment is missed, a call on segments is asked for, or the call waits
abbrev pub OnUndone : Result Called Fault → Type 0 → Type 0
OnUndone (Ok (Missed s)) P = P
OnUndone (Ok (Asked a next)) P = P
OnUndone (Ok Waits) P = P
OnUndone (Ok (Back put)) P = Unit {0}
OnUndone (Ok (Exited code)) P = Unit {0}
OnUndone (Ok (Trap vector code)) P = Unit {0}
OnUndone (Err x) P = Unit {0}

-- a piece for the console and then a text for the report: both whole, or fronts, the report's only behind the whole piece
pub record PutInPart (piece text : List ℕ) (console_old console_new report_old report_new : Option (List ℕ)) : Type 0 where
  pub to_console : GainsSome console_old console_new (λ front. IsPrefix front piece)
  pub to_report : GainsSome report_old report_new (λ front. IsPrefix front text)
  pub in_order : (report_new ≡ report_old) ⊎ Gains console_old console_new piece

abbrev pub PutsBoth : (piece text : List ℕ) → (console_old console_new report_old report_new : Option (List ℕ)) → Put → Type 0
PutsBoth piece text c d r q put.Done = Gains c d piece × Gains r q text
PutsBoth piece text c d r q put.Failed = PutInPart piece text c d r q

-- the bytes of the input that a take of at most `count` gave stand at the front of the buffer
abbrev pub Fills : ℕ → (left_old left_new : Option (List ℕ)) → List ℕ → Took → Type 0
Fills count i j buffer (took.Done n) = (t : List ℕ) → i ≡ Some t → (take n buffer ≡ take count t) × (j ≡ Some (drop count t))
Fills count i j buffer took.Failed = (t : List ℕ) → i ≡ Some t → j ≡ i

-- only a take of some bytes fails
abbrev pub AskedFor : ℕ → Took → Type 0
AskedFor count (took.Done n) = Unit {0}
AskedFor count took.Failed = (count == 0) ≡ false
