-- What a run leaves that tells whether its stop line was put.
use Rattle.std.specs.Prelude.{◌≡◌, ◌≤◌, ℕ, ◌+◌, ◌++◌, Bool, true, false, List, Option, Result, Ok, Err}
use Rattle.o2_outer.specs.Texts.{Gains, Rose}
use Rattle.o2_world.specs.World.{World, Setting}
use Rattle.o2_world.specs.Text.{lines_text}
use Rattle.o2_world.specs.Run.{after, ready}
use Rattle.o2_run.specs.Ended.{HasStoppedTexts, HasTexts}
use Rattle.o2_run.specs.Pieces.{Counts}
use Rattle.o2_run.specs.Stops.{stop_line}
use Rattle.o2_run.specs.declared.fault.Fault.{Fault}
use Rattle.o2_run.specs.declared.fault.Fault.TheVariants.{Sink, Stopped}

-- The last put of a sink failed: one put earlier the sink was as `before`, and its count of faults rose from there on.
pub record LastPutFailed {S : Type 0} (puts faults : S → ℕ) (old new : S) : Type 0 where
  pub before : S
  pub later : faults old ≤ faults before
  pub one_put : puts new ≡ puts before + 1
  pub rose : Rose (faults before) (faults new)

-- the one where it was put whole, and else the other
abbrev pub IsPut : (put : Bool) → Type 0 → Type 0 → Type 0
IsPut true whole fault = whole
IsPut false whole fault = fault

-- both texts at the end of a run, and behind the lines of a stop the whole stop line where it was put whole
abbrev pub HasLined : (stands_now : World → Type 0) → (swaps : Bool) → (blocks : ℕ) → Setting → World
    → (left console_old console_new report_old report_new : Option (List ℕ)) → (fault : Type 0) → (puts : Counts) → (put : Bool) → Result (Unit {0}) Fault → Type 0
HasLined f swaps blocks s w i c d r q e n put (Ok x) = HasTexts f swaps blocks s w i c d r q e n (Ok x)
HasLined f swaps blocks s w i c d r q e n put (Err Sink) = HasTexts f swaps blocks s w i c d r q e n (Err Sink)
HasLined f swaps blocks s w i c d r q e n put (Err (Stopped why)) =
    (t : HasStoppedTexts swaps blocks s w why i c d r q e n) × f (ready (after s w t.steps))
    × IsPut put (Gains r q (lines_text (after s w t.steps).lines ++ stop_line why)) e
