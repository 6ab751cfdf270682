-- An attempt at a step over a bus, as the step of the boundless machine.
use Rattle.std.proofs.Common.{◌≡◌, ℕ, List, Option, true, ap, sym, ◌∙◌, subst}
use Rattle.std.specs.Prelude.{Result, Ok, Err}
use Rattle.o2_base.specs.declared.selector.Selector.{Selector}
use Rattle.o2_isa.specs.declared.cpu.Cpu.{Cpu}
use Rattle.o2_isa.specs.declared.cpu.Outcome.TheVariants as outcome
use Rattle.o2_isa.specs.declared.cpu.Stop.TheVariants as stop
use Rattle.o2_isa.specs.View.{View, Filling, KeepsFrame, whole, no_rest, no_hidden}
use Rattle.o2_isa.specs.Pointers.{KeepsAllButBytes}
use Rattle.o2_isa.specs.Steps.{State as Machine, state}
use Rattle.o2_isa.specs.Presence.{whole_state, IsMissed}
use Rattle.o2_isa.specs.Step.{stepped, AsBoundless}
use Rattle.o2_isa.proofs.StepLaws.{answers_unseen}
use Rattle.o2_world.specs.Known.{Known}
use Rattle.o2_world.specs.Calls.{Effect, row_of, serviced, asks}
use Rattle.o2_world.specs.Effect.{effect}
use Rattle.o2_gate.specs.declared.arguments.Arguments.{Arguments}
use Rattle.o2_gate.specs.Befores.{boundless, before_call}
use Rattle.o2_gate.specs.Pointed.{ArePresent, IsAway}
use Rattle.o2_gate.specs.Called.{IsUntouched, FaultsFor, DoesFor, OnAsked as OnAskedCall, OnMissed, OnUndone as OnUndoneCall}
use Rattle.o2_gate.specs.declared.called.Called.{Called}
use Rattle.o2_gate.specs.declared.called.Called.TheVariants.{Asked, Missed}
use Rattle.o2_gate.specs.Targets.{targets}
use Rattle.o2_run.specs.Room.{call_names, pointed}
use Rattle.o2_run.specs.declared.steps.Stop.TheVariants as halt
use Rattle.o2_run.specs.declared.fault.Fault.{Fault}
use Rattle.o2_run.specs.declared.fault.Fault.TheVariants as fault
use Rattle.o2_run.specs.Faults.{CauseOf}
use Rattle.o2_stepping.specs.Ran.{IsStill, IsInPart, LeavesFault, OnAsked, OnMissed as OnStepMissed, OnUndone, TellsTried}
use Rattle.o2_stepping.specs.declared.one_step.Attempt.{Attempt}
use Rattle.o2_stepping.specs.declared.one_step.Attempt.TheVariants as attempt
use Rattle.o2_stepping.specs.declared.one_step.Stepped.TheVariants as one
use Rattle.o2_stepping.proofs.Leaving.{effect_by, in_part}

-- The instruction.

module _ (f : Filling) (v w : View) (c d : Cpu) where
  pub done_boundless : AsBoundless f outcome.Done (state d w) (state c v) → stepped (state c (boundless f v)) ≡ Ok (state d (boundless f w))
  done_boundless a = answers_unseen no_rest no_hidden outcome.Done (whole_state f (state d w)) (whole_state f (state c v)) a

  pub trap_boundless : (vector code : ℕ) → AsBoundless f (outcome.Trap vector code) (state d w) (state c v) → stepped (state c (boundless f v)) ≡ Err (stop.Trap vector code)
  trap_boundless vector code a = (answers_unseen no_rest no_hidden (outcome.Trap vector code) (whole_state f (state d w)) (whole_state f (state c v)) a).0

  pub gate_boundless : (service next : ℕ) → AsBoundless f (outcome.Gate service next) (state d w) (state c v) → stepped (state c (boundless f v)) ≡ Err (stop.Gate service next)
  gate_boundless service next a = (answers_unseen no_rest no_hidden (outcome.Gate service next) (whole_state f (state d w)) (whole_state f (state c v)) a).0

pub away_by : (v : View) (s : Selector) (names : List ℕ) → IsMissed v s names → IsAway v s
away_by v s names m = record { hold = m.hold; found_it = m.found_it; absent = m.absent; whole = m.whole }

pub whole_same : (f : Filling) (v w : View) → w ≡ v → (n : ℕ) → (whole f w).bytes n ≡ (whole f v).bytes n
whole_same f v w e n = ap (λ (x : View). (whole f x).bytes n) e

-- The frame.

pub frame_by : (v w : View) → KeepsAllButBytes v w → KeepsFrame v w
frame_by v w e = record {
  held = ap (λ (x : View). x.held) e;
  gate = ap (λ (x : View). x.gate) e;
  size = ap (λ (x : View). x.size) e;
  present = ap (λ (x : View). x.present) e;
  discarded = ap (λ (x : View). x.discarded) e;
  rest = ap (λ (x : View). x.rest) e;
  hidden = ap (λ (x : View). x.hidden) e;
}

pub frame_then : (u v w : View) → KeepsFrame u v → KeepsFrame v w → KeepsFrame u w
frame_then u v w a b = record {
  held = b.held ∙ a.held;
  gate = b.gate ∙ a.gate;
  size = b.size ∙ a.size;
  present = b.present ∙ a.present;
  discarded = b.discarded ∙ a.discarded;
  rest = b.rest ∙ a.rest;
  hidden = b.hidden ∙ a.hidden;
}

pub still_of : (f : Filling) (cpu old : Cpu) (v new : View) (i j c d r q : Option (List ℕ)) → IsUntouched cpu old v new i j c d r q → IsStill cpu old (whole f v).bytes (whole f new).bytes i j c d r q
still_of f cpu old v new i j c d r q u = record { cpu = u.cpu; bytes = whole_same f v new u.view; input = u.input; to_console = u.to_console; to_report = u.to_report }

-- The call, from the machine before the far CALL, which changes nothing.

module _ (f : Filling) (number : ℕ) (input : List ℕ) (known : Known) (service next : ℕ) (cpu : Cpu) (new : View) (i j c d r q : Option (List ℕ)) where
  abbrev pub does_at : Result Called Fault → Machine → Type 0
  does_at answer s =
      let b = before_call (boundless f s.view) number s.cpu input known in
      DoesFor (asks b ≡ true) f b (serviced b service next) cpu s.view new i j c d r q answer

  pub moved : (answer : Result Called Fault) (s t : Machine) → s ≡ t → does_at answer s → does_at answer t
  moved answer s t same = subst (does_at answer) same

  module _ (v : View) (old : Cpu) (x y : Called) (is : x ≡ y) (does : does_at (Ok x) (state old v)) where
    pub by_answer : does_at (Ok y) (state old v)
    by_answer = subst (λ (z : Called). does_at (Ok z) (state old v)) is does

  -- a fault of the call is one of the step
  pub fault_by : (v : View) (old : Cpu) (x : Fault) → let b = before_call (boundless f v) number old input known in
      stepped (state old (boundless f v)) ≡ Err (stop.Gate service next) → CauseOf (Unit {0}) (service ≡ 3) ⊥ ⊥ x
      → FaultsFor (asks b ≡ true) b (serviced b service next) cpu v new i j c d r q x
      → LeavesFault b (effect b) cpu (whole f v).bytes (whole f new).bytes i j c d r q x
  fault_by v old fault.Sink step read part =
      let b = before_call (boundless f v) number old input known in
      subst (λ (e : Effect). IsInPart e cpu old (whole f v).bytes (whole f new).bytes i j c d r q) (sym (effect_by b (Err (stop.Gate service next)) step))
      (in_part b (serviced b service next) cpu old (whole f v).bytes (whole f new).bytes i j c d r q
      (record { cpu = part.cpu; bytes = whole_same f v new part.view; input = part.input; to_console = part.to_console; to_report = part.to_report; in_order = part.in_order; selectors = part.selectors; changes = part.changes }))
  fault_by v old (fault.Stopped halt.Input) step read unread = record {
    cause = record { next = next; calls = step ∙ ap (λ (n : ℕ). Err (stop.Gate n next)) read; asks_it = unread.cause };
    still = still_of f cpu old v new i j c d r q unread.untouched;
  }
  fault_by v old (fault.Stopped halt.NoRoom) step read never = absurd never
  fault_by v old (fault.Stopped halt.SwapFull) step read never = absurd never
  fault_by v old (fault.Stopped halt.SwapFault) step read never = absurd never

pub missed_by : (v : View) (x : Called) (s : Selector) → x ≡ Missed s → OnMissed (Ok x) (λ t. IsAway v t) → IsAway v s
missed_by v x s is away = subst (λ (y : Called). OnMissed (Ok y) (λ t. IsAway v t)) is away

pub undone_missed : (P : Type 0) (x : Called) (s : Selector) → x ≡ Missed s → OnUndoneCall (Ok x) P → P
undone_missed P x s is holds = subst (λ (y : Called). OnUndoneCall (Ok y) P) is holds

pub undone_of : (P : Type 0) (x : Called) (a : Arguments) (next : ℕ) → x ≡ Asked a next → OnUndoneCall (Ok x) P → P
undone_of P x a next is holds = subst (λ (y : Called). OnUndoneCall (Ok y) P) is holds

-- A call on segments that is asked for, from the machine before the far CALL: the names that it passes are behind its pointers.

module _ (number : ℕ) (input : List ℕ) (known : Known) (f : Filling) (service : ℕ) (a : Arguments) where
  abbrev pub points_at : Machine → Type 0
  points_at s = call_names (before_call (boundless f s.view) number s.cpu input known) (row_of service) ≡ pointed (boundless f s.view) (targets a)

  pub points_from : (s t : Machine) → s ≡ t → points_at s → points_at t
  points_from s t same = subst points_at same

pub asked_of : (P : Arguments → Type 0) (x : Called) (a : Arguments) (next : ℕ) → x ≡ Asked a next → OnAskedCall (Ok x) P → P a
asked_of P x a next is holds = subst (λ (y : Called). OnAskedCall (Ok y) P) is holds

-- Attempts.

pub none_undone : (r : Result Attempt Fault) (P : Type 0) → OnUndone r ⊥ → OnUndone r P
none_undone (Ok (attempt.Stepped (one.Ran ran))) P e = tt
none_undone (Ok (attempt.Stepped (one.Asked a next))) P e = absurd e
none_undone (Ok (attempt.Missed s)) P e = absurd e
none_undone (Err x) P e = tt

pub none_missed : (r : Result Attempt Fault) (P : Selector → Type 0) → OnUndone r ⊥ → OnStepMissed r P
none_missed (Ok (attempt.Stepped x)) P e = tt
none_missed (Ok (attempt.Missed s)) P e = absurd e
none_missed (Err x) P e = tt

pub none_asked : (r : Result Attempt Fault) (P : Arguments → Type 0) → OnUndone r ⊥ → OnAsked r P
none_asked (Ok (attempt.Stepped (one.Ran ran))) P e = tt
none_asked (Ok (attempt.Stepped (one.Asked a next))) P e = absurd e
none_asked (Ok (attempt.Missed s)) P e = tt
none_asked (Err x) P e = tt

pub map_undone : (P Q : Type 0) (r : Result Attempt Fault) → (P → Q) → OnUndone r P → OnUndone r Q
map_undone P Q (Ok (attempt.Stepped (one.Ran ran))) f p = tt
map_undone P Q (Ok (attempt.Stepped (one.Asked a next))) f p = f p
map_undone P Q (Ok (attempt.Missed s)) f p = f p
map_undone P Q (Err x) f p = tt

-- where none is missed all names are present
pub all_tell : (v : View) (names : Filling → List ℕ) (r : Result Attempt Fault) → OnUndone r ⊥ → ((f : Filling) → ArePresent v (names f)) → TellsTried v names r
all_tell v names (Ok (attempt.Stepped x)) e here = here
all_tell v names (Ok (attempt.Missed s)) e here = absurd e
all_tell v names (Err x) e here = here

-- what holds where nothing is done yet and what holds of the call that is asked for, together
pub both_asked : (P : Type 0) (Q R : Arguments → Type 0) (r : Result Attempt Fault) → ((a : Arguments) → P → Q a → R a) → OnUndone r P → OnAsked r Q → OnAsked r R
both_asked P Q R (Ok (attempt.Stepped (one.Ran ran))) f p q = tt
both_asked P Q R (Ok (attempt.Stepped (one.Asked a next))) f p q = f a p q
both_asked P Q R (Ok (attempt.Missed s)) f p q = tt
both_asked P Q R (Err x) f p q = tt
