-- How many pieces both sinks are handed: one for each line, and one for each step whose console piece has bytes.
use Rattle.std.specs.Prelude.{◌≡◌, ◌≤◌, ℕ, zero, suc, ◌+◌, ◌-◌, ◌==◌, true, false, List, [], ◌∷◌, ◌++◌, length, Option, None, Result, Ok, Err, if◌then◌else◌}
use Rattle.o2_outer.specs.Texts.{Gains, GainsBetween}
use Rattle.o2_world.specs.World.{Line, World, Setting}
use Rattle.o2_world.specs.Text.{lines_text}
use Rattle.o2_world.specs.Calls.{Effect}
use Rattle.o2_world.specs.Run.{after, step, is_over}
use Rattle.o2_run.specs.declared.fault.Fault.{Fault}
use Rattle.o2_run.specs.declared.fault.Fault.TheVariants as fault
use Rattle.o2_run.specs.declared.steps.Turn.{Turn}
use Rattle.o2_run.specs.declared.steps.Turn.TheVariants as turn

-- how many pieces both sinks were handed before and after, and, where that is asked, what the report had taken; `ahead` are the lines that
-- the report was handed earlier
pub record Counts : Type 0 where
  pub console_old : ℕ
  pub console_new : ℕ
  pub report_old : ℕ
  pub report_new : ℕ
  pub ahead : ℕ
  pub text_old : Option (List ℕ)
  pub text_new : Option (List ℕ)

abbrev pub counts : (console_old console_new report_old report_new ahead : ℕ) → Counts
counts c d r q a = record { console_old = c; console_new = d; report_old = r; report_new = q; ahead = a; text_old = None; text_new = None }

abbrev pub told_counts : (console_old console_new report_old report_new ahead : ℕ) → (text_old text_new : Option (List ℕ)) → Counts
told_counts c d r q a x y = record { console_old = c; console_new = d; report_old = r; report_new = q; ahead = a; text_old = x; text_new = y }

-- the console is handed so many pieces, and the report so many with those ahead
pub record Hands (n : Counts) (pieces lines : ℕ) : Type 0 where
  pub to_console : n.console_new ≡ n.console_old + pieces
  pub to_report : n.report_new + n.ahead ≡ n.report_old + lines

-- the report from so many to so many: one of them failed
pub record HandsUpTo (n : Counts) (pieces low high : ℕ) : Type 0 where
  pub to_console : n.console_new ≡ n.console_old + pieces
  pub at_least : n.report_old + low ≤ n.report_new + n.ahead
  pub at_most : n.report_new + n.ahead ≤ n.report_old + high

-- a piece that has bytes is put at once, and one that has none isn't put
abbrev pub puts_of : (bytes : ℕ) → ℕ
puts_of n = if n == 0 then 0 else 1

-- the put of a step for the console
abbrev pub step_puts : World → World → ℕ
step_puts w next = puts_of (length next.console - length w.console)

-- those of the first k steps
abbrev pub pieces : Setting → World → ℕ → ℕ
pieces s w zero = 0
pieces s w (suc k) = pieces s w k + step_puts (after s w k) (after s w (suc k))

-- Of these lines some were put whole, the next one failed, and none behind it was put. The report has the whole ones and a front of that
-- one, and was handed as many pieces.
pub record FailsInLine (lines : List Line) (text_old text_new : Option (List ℕ)) (before now : ℕ) : Type 0 where
  pub whole : List Line
  pub failed : Line
  pub rest : List Line
  pub splits : lines ≡ whole ++ failed ∷ rest
  pub to_report : GainsBetween text_old text_new (lines_text whole) (lines_text (whole ++ failed ∷ []))
  pub puts : now ≡ before + (length whole + 1)

-- in the opening nothing is put on the console, and one of its lines failed
pub record FailsInOpening (lines : List Line) (report_old report_new : Option (List ℕ)) (n : Counts) : Type 0 where
  pub to_console : n.console_new ≡ n.console_old
  pub in_line : FailsInLine lines report_old report_new n.report_old (n.report_new + n.ahead)

-- a sink failed among so many bytes for the console and these lines: at the piece, behind which no line is put, or at a line behind the
-- whole piece
pub data FailsIn (bytes : ℕ) (lines : List Line) (console_old console_new : ℕ) (text_old text_new : Option (List ℕ)) (before now : ℕ) : Type 0 where
  AtPiece : console_new ≡ console_old + puts_of bytes → text_new ≡ text_old → now ≡ before
      → FailsIn bytes lines console_old console_new text_old text_new before now
  AtLine : console_new ≡ console_old + puts_of bytes → FailsInLine lines text_old text_new before now
      → FailsIn bytes lines console_old console_new text_old text_new before now

-- in a step: among the lines that it adds
pub record FailsInStep (w next : World) (n : Counts) : Type 0 where
  pub lines : List Line
  pub adds : next.lines ≡ w.lines ++ lines
  pub fails : FailsIn (length next.console - length w.console) lines n.console_old n.console_new n.text_old n.text_new n.report_old n.report_new

-- in a run, behind all steps before: the report has all lines of the world before the step, and the ones of the step up to the failed one
pub data FailsBehind (pieces : ℕ) (w next : World) (report_old report_new : Option (List ℕ)) (n : Counts) : Type 0 where
  BeforeLines : Gains report_old report_new (lines_text w.lines) → Hands n pieces (length w.lines) → FailsBehind pieces w next report_old report_new n
  AmongLines : (whole : List Line) (failed : Line) (rest : List Line) → next.lines ≡ (w.lines ++ whole) ++ failed ∷ rest
      → GainsBetween report_old report_new (lines_text (w.lines ++ whole)) (lines_text ((w.lines ++ whole) ++ failed ∷ []))
      → Hands n pieces (length (w.lines ++ whole) + 1) → FailsBehind pieces w next report_old report_new n

-- a sink failed: in a step, or in the last line
pub record FailedHands (s : Setting) (w : World) (n : Counts) : Type 0 where
  pub in_step : is_over w ≡ false → FailsInStep w (step s w) n
  pub at_end : is_over w ≡ true → Hands n 0 (length w.lines + 1)

-- a turn, where the lines of the world are ahead: the last line is one put, and so is a stop line, whole or not
abbrev pub TurnHands : Setting → World → Counts → Turn → Type 0
TurnHands s w n turn.Ran = Hands n (step_puts w (step s w)) (length (step s w).lines)
TurnHands s w n turn.Discarded = Hands n 0 (length w.lines)
TurnHands s w n turn.SinkFault = FailedHands s w n
TurnHands s w n turn.AllEnded = Hands n 0 (length w.lines + 1)
TurnHands s w n turn.BudgetSpent = Hands n 0 (length w.lines + 1)
TurnHands s w n turn.InputFault = Hands n 0 (length w.lines + 1)
TurnHands s w n turn.NoRoom = Hands n 0 (length w.lines + 1)
TurnHands s w n turn.SwapFull = Hands n 0 (length w.lines + 1)
TurnHands s w n turn.SwapFault = Hands n 0 (length w.lines + 1)

-- where the one line failed that is put, and no piece
abbrev pub LineHands : {T : Type 0} → Counts → Result T Fault → Type 0
LineHands n (Ok x) = Unit {0}
LineHands n (Err fault.Sink) = Hands n 0 1
LineHands n (Err (fault.Stopped why)) = Unit {0}

-- where a sink failed in an effect
abbrev pub FaultPart : Effect → Counts → Fault → Type 0
FaultPart e n fault.Sink = FailsIn (length e.piece) e.lines n.console_old n.console_new n.text_old n.text_new n.report_old n.report_new
FaultPart e n (fault.Stopped why) = Unit {0}

abbrev pub PartHands : {T : Type 0} → Effect → Counts → Result T Fault → Type 0
PartHands e n (Ok x) = Unit {0}
PartHands e n (Err f) = FaultPart e n f
