-- The run of a bench, by what its machine began with.
use Rattle.std.proofs.Common.{◌≡◌, ℕ, ◌+◌, [], length, List, Option, Some, None, ap, ◌∙◌, sym, refl, subst, inl, inr}
use Rattle.std.specs.Prelude.{Bool, Ok, Err}
use Rattle.o2_words.specs.declared.words.Verb.TheVariants.{Bench}
use Rattle.o2_world.specs.World.{World, Setting}
use Rattle.o2_outer.specs.Texts.{Gains, GainsSome, IsPrefix}
use Rattle.o2_run.specs.declared.steps.Stop.{Stop}
use Rattle.o2_run.specs.declared.steps.Stop.TheVariants.{Input, NoRoom, SwapFull, SwapFault}
use Rattle.o2_run.specs.declared.fault.Fault.{Fault}
use Rattle.o2_run.specs.declared.fault.Fault.TheVariants.{Sink, Stopped}
use Rattle.o2_run.specs.Pieces.{counts}
use Rattle.o2_run.specs.Ended.{EndsAs}
use Rattle.o2_run.proofs.Reached.{part_from}
use Rattle.o2_machine.specs.declared.last.Last.{Last}
use Rattle.o2_machine.specs.declared.last.Last.TheVariants.{AllEnded, BudgetSpent, SinkFault, Stopped as LastStopped}
use Rattle.o2_machine.specs.Lasts.{last_lines, machine_swaps, stopped_of}
use Rattle.o2_open.specs.declared.session.Session.{Session}
use Rattle.o2_cli.specs.declared.status.Status.{Status}
use Rattle.o2_cli.specs.declared.status.Status.TheVariants as status
use Rattle.o2_cli.specs.Opening.{StartsWith}
use Rattle.o2_run.specs.Lined.{HasLined}
use Rattle.o2_cli.specs.Unseen.{Written, IsOver}
use Rattle.o2_cli.specs.BenchTexts.{bench_line, bench_text, HasLine, HasLineFront, InRun, AtLine}
use Rattle.o2_cli.specs.RunTexts.{FailsToBegin, ShowsRun, StopsRun}
use Rattle.o2_cli.specs.Statuses.{status_of}
use Rattle.o2_cli.proofs.Earlier.{earlier_stop, earlier_whole}
use Rattle.o2_cli.proofs.Runs.{start_of, has_started, in_opening}

-- where it has no first step
pub fails_bench : (count : ℕ) (s : Session) (blocks : ℕ) (i c r q : Option (List ℕ)) (e : Type 0) (k before now : ℕ) (answer : Status) → FailsToBegin s r q before now answer
    → ShowsRun (Bench count) s blocks i i c c r q e (counts k k before now 0) answer
fails_bench count s blocks i c r q e k before now status.SinkFault f = λ input left. record {
  start = start_of s input f.0.built;
  starts = has_started s input f.0.built f.0.starts;
  runs = InRun (record { written = record { bytes = []; pieces = 0 }; run = in_opening s f.0.built input i (Some []) r q left f.0.to_report 0 before now f.1 })
      (record { same = refl; none_put = refl });
}
fails_bench count s blocks i c r q e k before now status.NoMemory f = record { input = refl; console = refl; report = f }
fails_bench count s blocks i c r q e k before now (status.BadModule name fault) f = record { input = refl; console = refl; report = f }
fails_bench count s blocks i c r q e k before now status.Fine f = absurd f
fails_bench count s blocks i c r q e k before now status.BadWords f = absurd f
fails_bench count s blocks i c r q e k before now (status.NoFile name) f = absurd f
fails_bench count s blocks i c r q e k before now (status.BadMachine fault) f = absurd f
fails_bench count s blocks i c r q e k before now status.FileFault f = absurd f
fails_bench count s blocks i c r q e k before now status.InputFault f = absurd f
fails_bench count s blocks i c r q e k before now status.NoRoom f = absurd f
fails_bench count s blocks i c r q e k before now status.SwapFull f = absurd f
fails_bench count s blocks i c r q e k before now status.SwapFault f = absurd f

-- behind the start: the report's last put failed since then, and the lines of the start were put before
module _ (s : Session) (blocks : ℕ) (i j r q : Option (List ℕ)) (since : Type 0) (x y z : ℕ) (put : Bool) (stands : Setting → World → Type 0) where
  module _ (e : Type 0) (later : since → e) (count : ℕ) (c : Option (List ℕ)) (k : ℕ) where
    abbrev pub Faulted : Fault → Type 0
    Faulted f = (input : List ℕ) → i ≡ Some input
        → StartsWith s input (λ o. (y ≡ x + length o.world.lines)
        × ((written : Written) × HasLined (stands o.setting) machine_swaps blocks o.setting o.world j (Some []) (Some written.bytes) r q since (counts 0 written.pieces y z (length o.world.lines)) put (Err f)))

    bench_stop : (why : Stop) → Faulted (Stopped why) → StopsRun (Bench count) s blocks i j c c r q e (counts k k x z 0) why
    bench_stop why ran = λ input left.
        let o = ran input left in
        record {
          start = o.start;
          starts = o.starts;
          runs = record {
            written = o.runs.1.0;
            run = earlier_stop machine_swaps o.start.setting o.start.world j (Some []) (Some o.runs.1.0.bytes) r q 0 o.runs.1.0.pieces x y z (length o.start.world.lines) o.runs.0 blocks why since e later o.runs.1.1.0;
            behind = record { same = refl; none_put = refl };
          };
        }

    by_fault : (f : Fault) → Faulted f → ShowsRun (Bench count) s blocks i j c c r q e (counts k k x z 0) (status_of f)
    by_fault Sink ran = λ input left.
        let o = ran input left in
        record {
          start = o.start;
          starts = o.starts;
          runs = InRun (record {
            written = o.runs.1.0;
            run = part_from machine_swaps o.start.setting o.start.world j (Some []) (Some o.runs.1.0.bytes) r q 0 o.runs.1.0.pieces x y z (length o.start.world.lines) o.runs.0 o.runs.1.1.0;
          }) (record { same = refl; none_put = refl });
        }
    by_fault (Stopped Input) ran = bench_stop Input ran
    by_fault (Stopped NoRoom) ran = bench_stop NoRoom ran
    by_fault (Stopped SwapFull) ran = bench_stop SwapFull ran
    by_fault (Stopped SwapFault) ran = bench_stop SwapFault ran

    pub faulted_bench : (f : Fault) (answer : Status) → answer ≡ status_of f → Faulted f → ShowsRun (Bench count) s blocks i j c c r q e (counts k k x z 0) answer
    faulted_bench f answer is ran = subst (λ (a : Status). ShowsRun (Bench count) s blocks i j c c r q e (counts k k x z 0) a) (sym is) (by_fault f ran)

  -- where its run is over
  abbrev pub Over : List ℕ → Type 0
  Over input =
      StartsWith s input (λ o. (y ≡ x + length o.world.lines)
      × ((written : Written) × HasLined (stands o.setting) machine_swaps blocks o.setting o.world j (Some []) (Some written.bytes) r q since (counts 0 written.pieces y z (length o.world.lines)) put (Ok tt)))

  over_with : (k l : ℕ) (P : Setting → World → Type 0) → ((t : Setting) (w : World) → stands t w → P t w) → (input : List ℕ) → Over input
      → StartsWith s input (λ o. IsOver o j r q (counts k l x z 0) (P o.setting))
  over_with k l P behind input o = record {
    start = o.start;
    starts = o.starts;
    runs = record {
      written = o.runs.1.0;
      run = earlier_whole machine_swaps o.start.setting o.start.world j (Some []) (Some o.runs.1.0.bytes) r q 0 o.runs.1.0.pieces x y z (length o.start.world.lines) o.runs.0 o.runs.1.1.0;
      behind = behind o.start.setting _ o.runs.1.1.1;
    };
  }

  module _ (e : Type 0) (count : ℕ) (c d : Option (List ℕ)) (k l : ℕ) (at_once : l ≡ k + 1) (ran : (input : List ℕ) → i ≡ Some input → Over input) where
    pub bench_done : ((t : Setting) (w : World) → stands t w → Gains c d (bench_line count t w)) → ShowsRun (Bench count) s blocks i j c d r q e (counts k l x z 0) status.Fine
    bench_done line = λ input left.
        over_with k l (λ t w. HasLine (bench_line count t w) c d (counts k l x z 0)) (λ t w h. record { gains = line t w h; at_once = at_once }) input (ran input left)

    pub bench_cut : ((t : Setting) (w : World) → stands t w → GainsSome c d (λ front. IsPrefix front (bench_line count t w)))
        → ShowsRun (Bench count) s blocks i j c d r q e (counts k l x z 0) status.SinkFault
    bench_cut line = λ input left.
        let o = over_with k l (λ t w. HasLineFront (bench_line count t w) c d (counts k l x z 0)) (λ t w h. record { gains = line t w h; at_once = at_once }) input (ran input left) in
        record { start = o.start; starts = o.starts; runs = AtLine o.runs }

-- the same numbers give the same line
pub line_is : (count a b l x y z : ℕ) → a ≡ x → b ≡ y → l ≡ z → bench_text count a b l ≡ bench_text count x y z
line_is count a b l x y z first second third =
    ap (λ (n : ℕ). bench_text count n b l) first ∙ ap (λ (n : ℕ). bench_text count x n l) second ∙ ap (λ (n : ℕ). bench_text count x y n) third

-- behind the end of a run its last line is counted
pub has_last_line : (last : Option Last) → EndsAs (stopped_of last) (Ok tt) → last_lines last ≡ 1
has_last_line (Some AllEnded) h = refl
has_last_line (Some BudgetSpent) h = refl
has_last_line (Some SinkFault) (inl e) = absurd (cc)
has_last_line (Some SinkFault) (inr e) = absurd (cc)
has_last_line (Some (LastStopped Input put)) (inl e) = absurd (cc)
has_last_line (Some (LastStopped Input put)) (inr e) = absurd (cc)
has_last_line (Some (LastStopped NoRoom put)) (inl e) = absurd (cc)
has_last_line (Some (LastStopped NoRoom put)) (inr e) = absurd (cc)
has_last_line (Some (LastStopped SwapFull put)) (inl e) = absurd (cc)
has_last_line (Some (LastStopped SwapFull put)) (inr e) = absurd (cc)
has_last_line (Some (LastStopped SwapFault put)) (inl e) = absurd (cc)
has_last_line (Some (LastStopped SwapFault put)) (inr e) = absurd (cc)
has_last_line None (inl e) = absurd (cc)
has_last_line None (inr e) = absurd (cc)
