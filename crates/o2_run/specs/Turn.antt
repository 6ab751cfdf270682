-- What a turn answers, and what it does to both texts.
use Rattle.std.specs.Prelude.{◌⊎◌, ◌≡◌, ◌<◌, Bool, true, false, ℕ, List, ◌++◌, Option, Some, None}
use Rattle.o2_outer.specs.Texts.{Continues, ContinuesBetween}
use Rattle.o2_world.specs.World.{World, Setting}
use Rattle.o2_world.specs.Text.{lines_text}
use Rattle.o2_world.specs.Run.{step, any_lives, is_over, console, report, with_word, words_coming}
use Rattle.o2_run.specs.Room.{Fits}
use Rattle.o2_run.specs.Stops.{stop_line, StopFits, StopsFor}
use Rattle.o2_run.specs.Faults.{CauseOf, OnFault, fault_of, stop_of}
use Rattle.o2_run.specs.declared.steps.Stop.{Stop}
use Rattle.o2_run.specs.declared.steps.Stop.TheVariants as stop
use Rattle.o2_run.specs.declared.steps.Turn.{Turn}
use Rattle.o2_run.specs.declared.steps.Turn.TheVariants as turn

-- where the run isn't over and a word comes before the next step, a turn is that word: it puts nothing and takes nothing
pub record DoesWord (stands_now : World → Type 0) (w : World) (left console_old console_new report_old report_new : Option (List ℕ)) : Type 0 where
  pub next : 0 < words_coming w
  pub input : left ≡ Some w.input
  pub stands : stands_now (with_word w)
  pub to_console : console_new ≡ console_old
  pub to_report : report_new ≡ report_old

-- no word comes before the next step
abbrev pub NoWord : World → Type 0
NoWord w = words_coming w ≡ 0

-- where none comes, a turn is that step, whose room a machine that swaps has
pub record StepsOn (stands_now : World → Type 0) (swaps : Bool) (s : Setting) (w : World)
    (left : Option (List ℕ)) (console_old console_new report_old report_new : Option (List ℕ)) : Type 0 where
  pub runs : is_over w ≡ false
  pub room : Fits swaps s w
  pub input : left ≡ Some (step s w).input
  pub stands : stands_now (step s w)
  pub to_console : Continues console_old console_new (console w) (console (step s w))
  pub to_report : Continues report_old report_new (lines_text w.lines) (lines_text (step s w).lines)

-- a sink that failed in a step shows a front of it: the report nothing of its lines, or the console its whole piece; the
-- machine stands for the world before the step, or for the one after it. A step takes its input before it puts anything, so what is
-- left is that of the world after it
pub record StepsInPart (stands_now : World → Type 0) (swaps : Bool) (s : Setting) (w : World)
    (left : Option (List ℕ)) (console_old console_new report_old report_new : Option (List ℕ)) : Type 0 where
  pub runs : is_over w ≡ false
  pub room : Fits swaps s w
  pub input : left ≡ Some (step s w).input
  pub stands : stands_now w ⊎ stands_now (step s w)
  pub to_console : ContinuesBetween console_old console_new (console w) (console (step s w))
  pub to_report : ContinuesBetween report_old report_new (lines_text w.lines) (lines_text (step s w).lines)
  pub in_order : (report_new ≡ report_old) ⊎ Continues console_old console_new (console w) (console (step s w))

-- where it is over, for the end of all processes or for the budget, the last line is put
pub record IsClosed (stands_now : World → Type 0) (w : World) (lives : Bool)
    (left console_old console_new report_old report_new : Option (List ℕ)) : Type 0 where
  pub over : is_over w ≡ true
  pub by : any_lives w.processes ≡ lives
  pub stands : stands_now w
  pub input : left ≡ Some w.input
  pub to_console : console_new ≡ console_old
  pub to_report : Continues report_old report_new (lines_text w.lines) (report w)

-- or a front of it
pub record IsClosedInPart (stands_now : World → Type 0) (w : World) (left console_old console_new report_old report_new : Option (List ℕ)) : Type 0 where
  pub over : is_over w ≡ true
  pub stands : stands_now w
  pub input : left ≡ Some w.input
  pub to_console : console_new ≡ console_old
  pub to_report : ContinuesBetween report_old report_new (lines_text w.lines) (report w)

-- a stop before the step: the stop line is put, or where the report failed a front of it
pub record IsStopped (stands_now : World → Type 0) (swaps : Bool) (blocks : ℕ) (s : Setting) (w : World) (why : Stop) (put : Bool)
    (left console_old console_new report_old report_new : Option (List ℕ)) : Type 0 where
  pub runs : is_over w ≡ false
  pub cause : StopsFor blocks s w why
  pub fits : StopFits swaps s w why
  pub stands : stands_now w
  pub input : left ≡ Some w.input
  pub to_console : console_new ≡ console_old
  pub to_report : ContinuesBetween report_old report_new (lines_text w.lines) (lines_text w.lines ++ stop_line why)
  pub whole : put ≡ true → Continues report_old report_new (lines_text w.lines) (lines_text w.lines ++ stop_line why)

-- From a machine that stands for w and hasn't stopped: a word comes exactly where one is next. Here where `swaps` says whether it swaps, `blocks` how many blocks its device
-- has, and `put` that a stop line was put whole
abbrev pub Turns : (World → Type 0) → (swaps : Bool) → (blocks : ℕ) → Setting → World → (put : Bool)
    → (left console_old console_new report_old report_new : Option (List ℕ)) → Turn → Type 0
Turns f swaps blocks s w put i c d r q turn.Ran = NoWord w × StepsOn f swaps s w i c d r q
Turns f swaps blocks s w put i c d r q turn.Discarded = DoesWord f w i c d r q
Turns f swaps blocks s w put i c d r q turn.AllEnded = IsClosed f w false i c d r q
Turns f swaps blocks s w put i c d r q turn.BudgetSpent = IsClosed f w true i c d r q
Turns f swaps blocks s w put i c d r q turn.InputFault = NoWord w × IsStopped f swaps blocks s w stop.Input put i c d r q
Turns f swaps blocks s w put i c d r q turn.SinkFault = (NoWord w × StepsInPart f swaps s w i c d r q) ⊎ IsClosedInPart f w i c d r q
Turns f swaps blocks s w put i c d r q turn.NoRoom = NoWord w × IsStopped f swaps blocks s w stop.NoRoom put i c d r q
Turns f swaps blocks s w put i c d r q turn.SwapFull = NoWord w × IsStopped f swaps blocks s w stop.SwapFull put i c d r q
Turns f swaps blocks s w put i c d r q turn.SwapFault = NoWord w × IsStopped f swaps blocks s w stop.SwapFault put i c d r q

-- the answer that is final
abbrev pub stopped_by : Turn → Option Turn
stopped_by turn.Ran = None
stopped_by turn.Discarded = None
stopped_by t = Some t

-- the stop line is put whole unless the report failed; in other turns none is put
abbrev pub LineFor : Bool → Type 0 → Option Stop → Type 0
LineFor put fault None = put ≡ false
LineFor put fault (Some why) = put ≡ false → fault

abbrev pub LineIs : Bool → Type 0 → Turn → Type 0
LineIs put fault t = LineFor put fault (stop_of t)

-- what a turn answers only where some count rose in it, each with its count: of a sink, of the input, of the device
abbrev pub Caused : (sink input device : Type 0) → Turn → Type 0
Caused sink input device t = OnFault (CauseOf sink input (Unit {0}) device) (fault_of t)

-- only a machine that swaps stops for want of room or of swap, or for a fault of its device
abbrev pub is_for_swap : Turn → Bool
is_for_swap turn.NoRoom = true
is_for_swap turn.SwapFull = true
is_for_swap turn.SwapFault = true
is_for_swap _ = false

-- the answers behind which the run goes on
abbrev pub OnGoing : Turn → Type 0 → Type 0
OnGoing turn.Ran P = P
OnGoing turn.Discarded P = P
OnGoing _ P = Unit {0}
