-- What the texts are at the end of a run.
use Rattle.std.specs.Prelude.{◌⊎◌, ◌≡◌, ◌<◌, ◌≤◌, ◌+◌, ◌++◌, ℕ, suc, Bool, false, List, length, Option, Some, Result, Ok, Err}
use Rattle.o2_outer.specs.Texts.{Gains, GainsBetween}
use Rattle.o2_world.specs.World.{World, Setting}
use Rattle.o2_world.specs.Text.{lines_text}
use Rattle.o2_world.specs.Run.{HasWholeTexts, HasPartTexts, InOpening, Between, AtLastLine, after, is_over, console, ready, words_done, words_coming, IsBelowLast}
use Rattle.o2_run.specs.Room.{AllFits, Fits}
use Rattle.o2_run.specs.Stops.{stop_line, StopFits, StopsFor}
use Rattle.o2_run.specs.Faults.{fault_turn}
use Rattle.o2_run.specs.Pieces.{Counts, FailsBehind, FailsInOpening, Hands, pieces}
use Rattle.o2_run.specs.declared.fault.Fault.{Fault}
use Rattle.o2_run.specs.declared.fault.Fault.TheVariants as fault
use Rattle.o2_run.specs.declared.steps.Stop.{Stop}
use Rattle.o2_run.specs.declared.steps.Stop.TheVariants as stop
use Rattle.o2_run.specs.declared.steps.Turn.{Turn}
use Rattle.o2_run.specs.declared.steps.Turn.TheVariants as turn

-- a machine that swaps had room for each of the first k steps
abbrev pub FitsBelow : (swaps : Bool) → Setting → World → ℕ → Type 0
FitsBelow swaps s w k = (j : ℕ) → j < k → Fits swaps s (after s w j)

-- all that lives before or behind a step fits the memory, for each step of a run
abbrev pub AllFitRun : Setting → World → Type 0
AllFitRun s w = (k : ℕ) → IsBelowLast s w k → AllFits s (after s w k)

-- a run that stops before its step k, for which it had the first cause: the lines so far, and the stop line, or where its put
-- failed, by the word `fault`, a front of it; each line is one put
pub record HasStoppedTexts (swaps : Bool) (blocks : ℕ) (s : Setting) (w : World) (why : Stop)
    (left console_old console_new report_old report_new : Option (List ℕ)) (fault : Type 0) (puts : Counts) : Type 0 where
  pub steps : ℕ
  pub below : IsBelowLast s w steps
  pub room : FitsBelow swaps s w steps
  pub cause : StopsFor blocks s (after s w steps) why
  pub fits : StopFits swaps s (after s w steps) why
  pub input : left ≡ Some (after s w steps).input
  pub to_console : Gains console_old console_new (console (after s w steps))
  pub to_report : GainsBetween report_old report_new (lines_text (after s w steps).lines)
      (lines_text (after s w steps).lines ++ stop_line why)
  pub whole : Gains report_old report_new (lines_text (after s w steps).lines ++ stop_line why) ⊎ fault
  pub hands : Hands puts (pieces s w steps) (length (after s w steps).lines + 1)

-- the whole texts, line by line and piece by piece, and the input that is left
pub record HasWholeRun (swaps : Bool) (s : Setting) (w : World) (left console_old console_new report_old report_new : Option (List ℕ)) (puts : Counts) : Type 0 where
  pub texts : HasWholeTexts s w console_old console_new report_old report_new
  pub room : FitsBelow swaps s w texts.last
  pub input : left ≡ Some (after s w texts.last).input
  pub hands : Hands puts (pieces s w texts.last) (length (after s w texts.last).lines + 1)

-- the step of which the texts are those of a front: none in the opening
abbrev pub part_at : {s : Setting} {w : World} {c d r q : Option (List ℕ)} → HasPartTexts s w c d r q → ℕ
part_at (InOpening to_console to_report) = 0
part_at (Between k below to_console to_report in_order) = k
part_at (AtLastLine k last to_console to_report) = k

-- the world before it: behind the words that come before it, but none is done in the opening, and none behind the last step
abbrev pub part_world : {s : Setting} {w : World} {c d r q : Option (List ℕ)} → HasPartTexts s w c d r q → World
part_world {s} {w} (InOpening to_console to_report) = w
part_world {s} {w} (Between k below to_console to_report in_order) = ready (after s w k)
part_world {s} {w} (AtLastLine k last to_console to_report) = after s w k

-- the step at which the world has the input that is left: none is taken in the opening, and a step takes its input before it puts
-- anything
abbrev pub left_at : {s : Setting} {w : World} {c d r q : Option (List ℕ)} → HasPartTexts s w c d r q → ℕ
left_at (InOpening to_console to_report) = 0
left_at (Between k below to_console to_report in_order) = suc k
left_at (AtLastLine k last to_console to_report) = k

-- the puts of a front, the one that failed among them: those of the lines in front of it, of a step or of the opening
abbrev pub HandsPart : (s : Setting) (w : World) {c d : Option (List ℕ)} (r q : Option (List ℕ)) → Counts → HasPartTexts s w c d r q → Type 0
HandsPart s w r q n (InOpening to_console to_report) = FailsInOpening w.lines r q n
HandsPart s w r q n (Between k below to_console to_report in_order) = FailsBehind (pieces s w (suc k)) (after s w k) (after s w (suc k)) r q n
HandsPart s w r q n (AtLastLine k last to_console to_report) = Hands n (pieces s w k) (length (after s w k).lines + 1)

-- a machine that swaps had room for each step of a front, the one in which a sink failed among them
abbrev pub FitsPart : (swaps : Bool) (s : Setting) (w : World) {c d r q : Option (List ℕ)} → HasPartTexts s w c d r q → Type 0
FitsPart swaps s w (InOpening to_console to_report) = Unit {0}
FitsPart swaps s w (Between k below to_console to_report in_order) = FitsBelow swaps s w (suc k)
FitsPart swaps s w (AtLastLine k last to_console to_report) = FitsBelow swaps s w k

-- texts of a front, and the input that is left behind the step in which a sink failed; in the opening that is all of it
pub record HasPartRun (swaps : Bool) (s : Setting) (w : World) (left console_old console_new report_old report_new : Option (List ℕ)) (puts : Counts) : Type 0 where
  pub texts : HasPartTexts s w console_old console_new report_old report_new
  pub room : FitsPart swaps s w texts
  pub input : left ≡ Some (after s w (left_at texts)).input
  pub hands : HandsPart s w report_old report_new puts texts

-- at each end the machine stands for the world of the same k as the texts, behind the words that came before its next step
abbrev pub HasTexts : (stands_now : World → Type 0) → (swaps : Bool) → (blocks : ℕ) → Setting → World
    → (left console_old console_new report_old report_new : Option (List ℕ)) → (fault : Type 0) → (puts : Counts) → Result (Unit {0}) Fault → Type 0
HasTexts f swaps blocks s w i c d r q e n (Ok x) = (t : HasWholeRun swaps s w i c d r q n) × f (after s w t.texts.last)
HasTexts f swaps blocks s w i c d r q e n (Err fault.Sink) =
    (t : HasPartRun swaps s w i c d r q n) × (f (part_world t.texts) ⊎ f (after s w (suc (part_at t.texts))))
HasTexts f swaps blocks s w i c d r q e n (Err (fault.Stopped why)) =
    (t : HasStoppedTexts swaps blocks s w why i c d r q e n) × f (ready (after s w t.steps))

-- only a machine that swaps stops for anything but its input
abbrev pub StopsForInput : Result (Unit {0}) Fault → Type 0
StopsForInput (Err (fault.Stopped why)) = why ≡ stop.Input
StopsForInput (Err fault.Sink) = Unit {0}
StopsForInput (Ok x) = Unit {0}

-- the answer of the last turn, by how the run ended
abbrev pub EndsAs : Option Turn → Result (Unit {0}) Fault → Type 0
EndsAs t (Ok x) = (t ≡ Some turn.AllEnded) ⊎ (t ≡ Some turn.BudgetSpent)
EndsAs t (Err f) = t ≡ Some (fault_turn f)

-- after k steps, none of which ended the run, and so many of the words that come before the next one: the machine stands for that world,
-- and both texts are its texts
pub record HasReached (stands_now : World → Type 0) (swaps : Bool) (s : Setting) (w : World)
    (left : Option (List ℕ)) (console_old console_now report_old report_now : Option (List ℕ)) (puts : Counts) : Type 0 where
  pub steps : ℕ
  pub words : ℕ
  pub stands : stands_now (words_done words (after s w steps))
  pub few : words ≤ words_coming (after s w steps)
  pub runs : (j : ℕ) → j < steps → is_over (after s w j) ≡ false
  pub room : FitsBelow swaps s w steps
  pub input : left ≡ Some (after s w steps).input
  pub to_console : Gains console_old console_now (console (after s w steps))
  pub to_report : Gains report_old report_now (lines_text (after s w steps).lines)
  pub hands : Hands puts (pieces s w steps) (length (after s w steps).lines)
