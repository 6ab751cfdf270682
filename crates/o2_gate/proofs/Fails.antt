-- What a sink's fault leaves of a call: of one with one line, and of one with two.
use Rattle.std.proofs.Common.{◌≡◌, ℕ, ◌+◌, List, [], ◌∷◌, length, Option, ap, sym, ◌∙◌, append-nil, subst, arith}
use Rattle.std.specs.Prelude.{Result, Ok, Err}
use Rattle.o2_outer.specs.declared.sink.Put.{Put}
use Rattle.o2_outer.specs.declared.sink.Put.TheVariants.{Done, Failed}
use Rattle.o2_outer.specs.Answers.{OnFailed, Takes}
use Rattle.o2_outer.specs.Texts.{Gains, GainsSome, IsPrefix}
use Rattle.o2_isa.specs.declared.cpu.Cpu.{Cpu}
use Rattle.o2_isa.specs.View.{View, Filling}
use Rattle.o2_world.specs.Calls.{Before, Effect}
use Rattle.o2_world.specs.Text.{line_text, lines_text}
use Rattle.o2_world.specs.World.{Line}
use Rattle.o2_run.specs.declared.steps.Stop.TheVariants as stop
use Rattle.o2_run.specs.declared.fault.Fault.{Fault}
use Rattle.o2_run.specs.declared.fault.Fault.TheVariants as fault
use Rattle.o2_run.specs.Pieces.{counts, told_counts, AtLine, FailsInLine, FaultPart, LineHands, PartHands, puts_of}
use Rattle.o2_run.proofs.FailedLines.{fails_behind, fails_first, fails_only}
use Rattle.o2_gate.specs.declared.called.Called.{Called}
use Rattle.o2_gate.specs.declared.called.Called.TheVariants.{Back, Exited, Trap, Missed, Asked, Waits}
use Rattle.o2_gate.specs.Called.{DoesFor}

-- where a sink failed
abbrev pub OnSink : Result Called Fault → Type 0 → Type 0
OnSink (Ok x) P = Unit {0}
OnSink (Err fault.Sink) P = P
OnSink (Err (fault.Stopped why)) P = Unit {0}

-- the report has a front of these lines
abbrev pub HasFront : (text_old text_new : Option (List ℕ)) → List Line → Type 0
HasFront r q lines = GainsSome r q (λ front. IsPrefix front (lines_text lines))

pub does_front : (P : Type 0) (f : Filling) (b : Before) (e : Effect) (cpu : Cpu) (old new : View) (i j c d r q : Option (List ℕ)) (answer : Result Called Fault)
    → DoesFor P f b e cpu old new i j c d r q answer → OnSink answer (HasFront r q e.lines)
does_front P f b e cpu old new i j c d r q (Ok (Back put)) does = tt
does_front P f b e cpu old new i j c d r q (Ok (Exited code)) does = tt
does_front P f b e cpu old new i j c d r q (Ok (Trap vector code)) does = tt
does_front P f b e cpu old new i j c d r q (Ok (Missed s)) does = tt
does_front P f b e cpu old new i j c d r q (Ok (Asked a next)) does = tt
does_front P f b e cpu old new i j c d r q (Ok Waits) does = tt
does_front P f b e cpu old new i j c d r q (Err fault.Sink) does = does.to_report
does_front P f b e cpu old new i j c d r q (Err (fault.Stopped stop.Input)) does = tt
does_front P f b e cpu old new i j c d r q (Err (fault.Stopped stop.NoRoom)) does = tt
does_front P f b e cpu old new i j c d r q (Err (fault.Stopped stop.SwapFull)) does = tt
does_front P f b e cpu old new i j c d r q (Err (fault.Stopped stop.SwapFault)) does = tt

pub no_piece : (k : ℕ) (bytes : ℕ) → bytes ≡ 0 → k ≡ k + puts_of bytes
no_piece k bytes none = let z : k + 0 ≡ k = omega arith in sym (ap (λ (n : ℕ). k + puts_of n) none ∙ z)

-- one line, and no piece
pub only_line : (e : Effect) (k x y : ℕ) (r q : Option (List ℕ)) (answer : Result Called Fault) → length e.lines ≡ 1 → length e.piece ≡ 0
    → OnSink answer (HasFront r q e.lines) → LineHands (counts k k x y 0) answer → PartHands e (told_counts k k x y 0 r q) answer
only_line e k x y r q (Ok a) one none front hands = tt
only_line e k x y r q (Err fault.Sink) one none front hands =
    AtLine (no_piece k (length e.piece) none) (fails_only e.lines r q x y one front (omega (arith, hands.to_report)))
only_line e k x y r q (Err (fault.Stopped why)) one none front hands = tt

-- the same lines by what was made of them
pub by_lines : (e : Effect) (k x y : ℕ) (r q : Option (List ℕ)) (lines : List Line) → e.piece ≡ [] → e.lines ≡ lines → FailsInLine lines r q x y
    → FaultPart e (told_counts k k x y 0 r q) fault.Sink
by_lines e k x y r q lines none are fails =
    AtLine (no_piece k (length e.piece) (ap (λ (bs : List ℕ). length bs) none)) (subst (λ (ls : List Line). FailsInLine ls r q x y) (sym are) fails)

-- one line by its own text
pub own_text : (l : Line) (r q : Option (List ℕ)) → GainsSome r q (λ front. IsPrefix front (line_text l)) → HasFront r q (l ∷ [])
own_text l r q front = subst (λ (t : List ℕ). GainsSome r q (λ front. IsPrefix front t)) (sym (append-nil (line_text l))) front

-- two lines, of which the first was put whole
pub second_line : (first second : Line) (r m q : Option (List ℕ)) (before mid now : ℕ) (p : Put) → Gains r m (line_text first) → mid ≡ before + 1 → Takes m q (line_text second) p → now ≡ mid + 1
    → OnFailed p (FailsInLine (first ∷ second ∷ []) r q before now)
second_line first second r m q before mid now Done put one takes two = tt
second_line first second r m q before mid now Failed put one takes two =
    fails_behind (first ∷ []) (second ∷ []) r m q before mid now (subst (Gains r m) (sym (append-nil (line_text first))) put) one
    (fails_first second [] m q mid now (own_text second m q takes) two)

-- what holds anyhow
pub on_failed : (P : Type 0) (p : Put) → P → OnFailed p P
on_failed P Done h = tt
on_failed P Failed h = h
