-- The puts of a step, by those of its call and of the line of an exception.
use Rattle.std.proofs.Common.{◌≡◌, ℕ, Bool, true, false, not, ◌&&◌, List, [], ◌∷◌, ◌++◌, Option, ap, sym, ◌∙◌, refl, subst, arith, if◌then◌else◌}
use Rattle.o2_isa.specs.declared.cpu.Cpu.{Cpu}
use Rattle.std.specs.Prelude.{Result, Ok, Err}
use Rattle.o2_base.specs.declared.selector.Selector.{Selector}
use Rattle.o2_world.specs.World.{Traps, is_live}
use Rattle.o2_world.specs.declared.types.State.TheVariants.{Trapped}
use Rattle.o2_world.specs.Calls.{Before, Effect, trapped}
use Rattle.o2_world.specs.Effect.{single_stepped, has_trap_flag}
use Rattle.o2_run.specs.declared.fault.Fault.{Fault}
use Rattle.o2_run.specs.declared.fault.Fault.TheVariants as fault
use Rattle.o2_run.specs.Pieces.{Counts, counts, told_counts, AtLine, AtPiece, FaultPart, Hands, PartHands, puts_of}
use Rattle.o2_run.proofs.FailedLines.{fails_before}
use Rattle.o2_gate.specs.declared.called.Called.{Called}
use Rattle.o2_gate.specs.declared.called.Called.TheVariants.{Asked, Back, Exited, Trap, Waits}
use Rattle.o2_gate.specs.declared.arguments.Arguments.{Arguments}
use Rattle.o2_gate.specs.Pieces.{CallHands}
use Rattle.o2_stepping.specs.Pieces.{AttemptHands, AttemptPart, StepHands, StepPart}
use Rattle.o2_stepping.specs.Taken.{IsSwapStop}
use Rattle.o2_stepping.specs.declared.one_step.Stepped.{Stepped}
use Rattle.o2_stepping.specs.declared.one_step.Attempt.{Attempt}
use Rattle.o2_stepping.specs.declared.one_step.Attempt.TheVariants as attempt
use Rattle.o2_stepping.proofs.Leaving.{ended_stays}

-- by the answer of the call
module _ (n : Counts) (x : Called) (hands : CallHands n (Ok x)) where
  pub back_hands : (bytes : ℕ) → x ≡ Back bytes → Hands n (puts_of bytes) 1
  back_hands bytes is = subst (λ (y : Called). CallHands n (Ok y)) is hands

  pub exit_hands : (code : ℕ) → x ≡ Exited code → Hands n 0 2
  exit_hands code is = subst (λ (y : Called). CallHands n (Ok y)) is hands

  pub trap_hands : (vector code : ℕ) → x ≡ Trap vector code → Hands n 0 0
  trap_hands vector code is = subst (λ (y : Called). CallHands n (Ok y)) is hands

  pub waits_hands : x ≡ Waits → Hands n 0 0
  waits_hands is = subst (λ (y : Called). CallHands n (Ok y)) is hands

  pub asked_hands : (a : Arguments) (next : ℕ) → x ≡ Asked a next → Hands n 0 0
  asked_hands a next is = subst (λ (y : Called). CallHands n (Ok y)) is hands

pub fault_hands : (n : Counts) (f : Fault) → CallHands n (Err f) → AttemptHands n (Err f)
fault_hands n fault.Sink h = tt
fault_hands n (fault.Stopped why) h = h

pub no_hands : (c r : ℕ) → Hands (counts c c r r 0) 0 0
no_hands c r = record { to_console = omega arith; to_report = omega arith }

pub missed_hands : (n : Counts) (a : Attempt) (s : Selector) → a ≡ attempt.Missed s → AttemptHands n (Ok a) → Hands n 0 0
missed_hands n a s is h = subst (λ (x : Attempt). AttemptHands n (Ok x)) is h

-- behind what has put nothing
pub behind : (P : Counts → Type 0) (c d r q p : ℕ) → Hands (counts c d r q 0) 0 0 → P (counts d d q p 0) → P (counts c d r p 0)
behind P c d r q p nothing h =
    let console : d ≡ c = omega (arith, nothing.to_console) in
    let report : q ≡ r = omega (arith, nothing.to_report) in
    subst (λ (z : ℕ). P (counts z d r p 0)) console (subst (λ (z : ℕ). P (counts d d z p 0)) report h)

-- the same, where the report had taken nothing
pub behind_told : (P : Counts → Type 0) (c d r q p : ℕ) (x y z : Option (List ℕ)) → Hands (counts c d r q 0) 0 0 → y ≡ x → P (told_counts d d q p 0 y z) → P (told_counts c d r p 0 x z)
behind_told P c d r q p x y z nothing same h =
    let console : d ≡ c = omega (arith, nothing.to_console) in
    let report : q ≡ r = omega (arith, nothing.to_report) in
    subst (λ (k : ℕ). P (told_counts k d r p 0 x z)) console
    (subst (λ (k : ℕ). P (told_counts d d k p 0 x z)) report
    (subst (λ (k : Option (List ℕ)). P (told_counts d d q p 0 k z)) same h))

-- the line of an exception alone
pub trap_part : (b : Before) (e : Effect) (vector : ℕ) (registers : Cpu) (n : Counts) (result : Result Attempt Fault) → e ≡ single_stepped b (trapped b vector) → registers ≡ b.cpu
    → (e.piece ≡ [] → e.lines ≡ Traps b.number vector registers.cs registers.ip ∷ [] → AttemptPart e n result) → AttemptPart e n result
trap_part b e vector registers n result is same part =
    let whole : e ≡ trapped b vector = is ∙ ended_stays b (trapped b vector) refl in
    part (ap (λ (x : Effect). x.piece) whole)
    (ap (λ (x : Effect). x.lines) whole ∙ ap (λ (z : Cpu). Traps b.number vector z.cs z.ip ∷ []) (sym same))

-- a line more changes nothing of what failed before it
with_line : (b : Before) (e : Effect) (n : Counts) (flag live : Bool) → FaultPart e n fault.Sink
    → FaultPart (if flag && live then record e { state = Trapped 1; lines = e.lines ++ Traps b.number 1 b.cpu.cs b.cpu.ip ∷ [] } else e) n fault.Sink
with_line b e n true true (AtPiece piece same none) = AtPiece piece same none
with_line b e n true true (AtLine piece fails) = AtLine piece (fails_before e.lines (Traps b.number 1 b.cpu.cs b.cpu.ip ∷ []) n.text_old n.text_new n.report_old n.report_new fails)
with_line b e n true false h = h
with_line b e n false live h = h

pub fault_part : (b : Before) (e whole : Effect) (n : Counts) (f : Fault) → whole ≡ single_stepped b e → PartHands {T = Called} e n (Err f) → AttemptPart whole n (Err f)
fault_part b e whole n fault.Sink is h = subst (λ (x : Effect). FaultPart x n fault.Sink) (sym is) (with_line b e n (has_trap_flag b.cpu.flags) (is_live e.state && not e.waits) h)
fault_part b e whole n (fault.Stopped why) is h = tt

-- an attempt as a step, where nothing can be missed
pub ran_hands : (n : Counts) (a : Attempt) (ran : Stepped) → a ≡ attempt.Stepped ran → AttemptHands n (Ok a) → StepHands n (Ok ran)
ran_hands n a ran is h = subst (λ (x : Attempt). AttemptHands n (Ok x)) is h

pub ran_fault : (n : Counts) (f : Fault) → AttemptHands n (Err f) → StepHands n (Err f)
ran_fault n fault.Sink h = tt
ran_fault n (fault.Stopped why) h = h

-- what a sink's fault leaves, too
pub ran_part : (e : Effect) (n : Counts) (a : Attempt) (ran : Stepped) → a ≡ attempt.Stepped ran → AttemptPart e n (Ok a) → StepPart e n (Ok ran)
ran_part e n a ran is h = subst (λ (x : Attempt). AttemptPart e n (Ok x)) is h

pub part_fault : (e : Effect) (n : Counts) (f : Fault) → AttemptPart e n (Err f) → StepPart e n (Err f)
part_fault e n f h = h

-- a stop before a try
pub stop_hands : (c r : ℕ) (f : Fault) → IsSwapStop f → AttemptHands (counts c c r r 0) (Err f)
stop_hands c r fault.Sink s = absurd s
stop_hands c r (fault.Stopped why) s = no_hands c r
