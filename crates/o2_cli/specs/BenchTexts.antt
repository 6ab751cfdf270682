-- What a bench shows: its line, and both texts by the end of its run.
use Rattle.std.specs.Prelude.{◌≡◌, ℕ, ◌+◌, List, [], ◌∷◌, ◌++◌, Option, codes, decimal, length}
use Rattle.o2_outer.specs.Texts.{Gains, GainsSome, IsPrefix}
use Rattle.o2_world.specs.World.{World, Setting}
use Rattle.o2_world.specs.Run.{console, steps_done}
use Rattle.o2_run.specs.Pieces.{Counts}
use Rattle.o2_run.specs.declared.steps.Stop.{Stop}
use Rattle.o2_cli.specs.Opening.{Opened}
use Rattle.o2_cli.specs.Unseen.{IsQuiet, IsOver, IsPart, IsStopped}

-- the line of a bench of so many processes
abbrev pub bench_text : (count steps bytes lines : ℕ) → List ℕ
bench_text count steps bytes lines =
    codes "bench " ++ decimal count ++ codes ": " ++ decimal steps ++ codes " steps, " ++ decimal bytes ++ codes " console bytes, "
    ++ decimal lines ++ codes " report lines" ++ 10 ∷ []

-- that of one whose run is over in this world: its steps, the bytes that its programs wrote, and the lines of its report, the last line
-- with them
abbrev pub bench_line : (count : ℕ) → Setting → World → List ℕ
bench_line count s w = bench_text count (steps_done s w) (length (console w)) (length w.lines + 1)

-- the console gains the line, by one put
pub record HasLine (line : List ℕ) (console_old console_new : Option (List ℕ)) (puts : Counts) : Type 0 where
  pub gains : Gains console_old console_new line
  pub at_once : puts.console_new ≡ puts.console_old + 1

-- or a front of it, where that put failed
pub record HasLineFront (line : List ℕ) (console_old console_new : Option (List ℕ)) (puts : Counts) : Type 0 where
  pub gains : GainsSome console_old console_new (λ front. IsPrefix front line)
  pub at_once : puts.console_new ≡ puts.console_old + 1

-- the run is over, and the line is put
abbrev pub HasBenchRun : (count : ℕ) → Opened → (left console_old console_new report_old report_new : Option (List ℕ)) → Counts → Type 0
HasBenchRun count o j c d r q n = IsOver o j r q n (λ w. HasLine (bench_line count o.setting w) c d n)

-- a sink failed: the report in the run, or the console at the line
pub data HasBenchPart (count : ℕ) (o : Opened) (left console_old console_new report_old report_new : Option (List ℕ)) (puts : Counts) : Type 0 where
  InRun : IsPart o left report_old report_new puts → IsQuiet console_old console_new puts
      → HasBenchPart count o left console_old console_new report_old report_new puts
  AtLine : IsOver o left report_old report_new puts (λ w. HasLineFront (bench_line count o.setting w) console_old console_new puts)
      → HasBenchPart count o left console_old console_new report_old report_new puts

-- the run stops before a step, and no line is put
abbrev pub HasBenchStopped : (blocks : ℕ) → Opened → Stop → (left console_old console_new report_old report_new : Option (List ℕ)) → (fault : Type 0)
    → Counts → Type 0
HasBenchStopped blocks o why j c d r q e n = IsStopped blocks o why j r q e n (λ w. IsQuiet c d n)
