-- The run of a dump, by what its machine began with, and the image behind it.
use Rattle.std.proofs.Common.{◌≡◌, ℕ, ◌+◌, ◌++◌, ◌∙◌, [], Bool, true, false, ap, length, List, Option, Some, refl, subst, sym}
use Rattle.std.proofs.lemmas.Bool.{false≢true}
use Rattle.std.specs.Prelude.{Result, Ok, Err}
use Rattle.o2_words.specs.declared.words.Verb.TheVariants.{Dump}
use Rattle.o2_outer.specs.Texts.{Gains}
use Rattle.o2_world.specs.World.{World, Line}
use Rattle.o2_world.specs.Starts.{Built}
use Rattle.o2_world.specs.Run.{after}
use Rattle.o2_world.specs.Text.{lines_text}
use Rattle.o2_world.proofs.Words.{ready_stays}
use Rattle.o2_run.specs.declared.steps.Stop.{Stop}
use Rattle.o2_run.specs.declared.steps.Stop.TheVariants.{Input, NoRoom, SwapFull, SwapFault}
use Rattle.o2_run.specs.declared.fault.Fault.{Fault}
use Rattle.o2_run.specs.declared.fault.Fault.TheVariants.{Sink, Stopped}
use Rattle.o2_run.specs.Pieces.{counts}
use Rattle.o2_run.specs.Stops.{stop_line}
use Rattle.o2_run.proofs.Reached.{part_from}
use Rattle.o2_machine.specs.Begins.{setting_of, starting, first_world}
use Rattle.o2_machine.specs.Lasts.{machine_swaps}
use Rattle.o2_dumping.specs.declared.parts.Wrote.{Wrote}
use Rattle.o2_dumping.specs.declared.parts.Wrote.TheVariants as wrote
use Rattle.o2_open.specs.declared.session.Session.{Session}
use Rattle.o2_cli.specs.declared.status.Status.{Status}
use Rattle.o2_cli.specs.declared.status.Status.TheVariants as status
use Rattle.o2_cli.specs.Opening.{Opened, StartsWith}
use Rattle.o2_cli.specs.Unseen.{Written, IsOver, IsPart, IsQuiet, IsStopped}
use Rattle.o2_run.specs.Lined.{HasLined, IsPut}
use Rattle.o2_cli.specs.DumpTexts.{AtEnd, AtStop, FaultAtImage, FaultInRun, GainsByWrote, GainsFront, HasStopLine, IsDumped, IsForRoom, IsUnfinished, PartAtImage, PartInRun, Told, Untold, is_dumped}
use Rattle.o2_cli.specs.RunTexts.{FailsToBegin, ShowsRun}
use Rattle.o2_cli.specs.Statuses.{status_of, status_of_image, status_of_run}
use Rattle.o2_cli.proofs.Earlier.{earlier_stop, earlier_whole}
use Rattle.o2_cli.proofs.Runs.{start_of, has_started, in_opening}

-- where it has no first step
pub fails_dump : (s : Session) (blocks : ℕ) (i c r q : Option (List ℕ)) (e : Type 0) (k before now : ℕ) (answer : Status) → FailsToBegin s r q before now answer
    → ShowsRun Dump s blocks i i c c r q e (counts k k before now 0) answer
fails_dump s blocks i c r q e k before now status.SinkFault f = λ input left. record {
  start = start_of s input f.0.built;
  starts = has_started s input f.0.built f.0.starts;
  runs = PartInRun (record { written = record { bytes = []; pieces = 0 }; run = in_opening s f.0.built input i (Some []) r q left f.0.to_report 0 before now f.1 })
      (record { same = refl; none_put = refl });
}
fails_dump s blocks i c r q e k before now status.NoMemory f = record { input = refl; console = refl; report = f }
fails_dump s blocks i c r q e k before now (status.BadModule name fault) f = record { input = refl; console = refl; report = f }
fails_dump s blocks i c r q e k before now status.Fine f = absurd f
fails_dump s blocks i c r q e k before now status.BadWords f = absurd f
fails_dump s blocks i c r q e k before now (status.NoFile name) f = absurd f
fails_dump s blocks i c r q e k before now (status.BadMachine fault) f = absurd f
fails_dump s blocks i c r q e k before now status.FileFault f = absurd f
fails_dump s blocks i c r q e k before now status.InputFault f = absurd f
fails_dump s blocks i c r q e k before now status.NoRoom f = absurd f
fails_dump s blocks i c r q e k before now status.SwapFull f = absurd f
fails_dump s blocks i c r q e k before now status.SwapFault f = absurd f

-- behind the start: the report's last put failed since then, and the lines of the start were put before
module _ (s : Session) (built : Built) (starts : starting s.linked s.conf ≡ Ok built) (blocks : ℕ) (i j c d r q : Option (List ℕ)) (since e : Type 0) (later : since → e)
    (k l x y z : ℕ) (front : y ≡ x + length built.lines) (put : Bool) (stands : World → Type 0) where
  abbrev pub Ran : Result (Unit {0}) Fault → Type 0
  Ran result = (input : List ℕ) → i ≡ Some input
      → (written : Written) × HasLined stands machine_swaps blocks (setting_of s.conf) (first_world s.linked s.conf input built) j (Some []) (Some written.bytes) r q since (counts 0 written.pieces y z (length built.lines)) put result

  abbrev pub Shown : Status → Type 0
  Shown answer = ShowsRun Dump s blocks i j c d r q e (counts k l x z 0) answer

  start : (input : List ℕ) (P : Opened → Type 0) → P (start_of s input built) → StartsWith s input P
  start input P h = record { start = start_of s input built; starts = has_started s input built starts; runs = h }

  over : (P : World → Type 0) → ((w : World) → stands w → P w) → Ran (Ok tt) → (input : List ℕ) → i ≡ Some input → IsOver (start_of s input built) j r q (counts k l x z 0) P
  over P behind ran input left =
      let h = ran input left in
      record {
        written = h.0;
        run = earlier_whole machine_swaps (setting_of s.conf) (first_world s.linked s.conf input built) j (Some []) (Some h.0.bytes) r q 0 h.0.pieces x y z (length built.lines) front h.1.0;
        behind = behind _ h.1.1;
      }

  part : Ran (Err Sink) → (input : List ℕ) → i ≡ Some input → IsPart (start_of s input built) j r q (counts k l x z 0)
  part ran input left =
      let h = ran input left in
      record {
        written = h.0;
        run = part_from machine_swaps (setting_of s.conf) (first_world s.linked s.conf input built) j (Some []) (Some h.0.bytes) r q 0 h.0.pieces x y z (length built.lines) front h.1.0;
      }

  stop : (why : Stop) (P : World → Type 0) → ((w : World) → stands w → IsPut put (HasStopLine why w r q) since → P w) → Ran (Err (Stopped why))
      → (input : List ℕ) → i ≡ Some input → IsStopped blocks (start_of s input built) why j r q e (counts k l x z 0) P
  stop why P behind ran input left =
      let h = ran input left in
      record {
        written = h.0;
        run = earlier_stop machine_swaps (setting_of s.conf) (first_world s.linked s.conf input built) j (Some []) (Some h.0.bytes) r q 0 h.0.pieces x y z (length built.lines) front blocks why since e later h.1.0;
        behind =
            behind _ h.1.1
            (subst (λ (ls : List Line). IsPut put (Gains r q (lines_text ls ++ stop_line why)) since)
            (sym (ready_stays (after (setting_of s.conf) (first_world s.linked s.conf input built) h.1.0.steps)).lines) h.1.2);
      }

  -- no image is put
  module _ (quiet : IsQuiet c d (counts k l x z 0)) where
    unlined : (why : Stop) (w : World) → put ≡ false → IsPut put (HasStopLine why w r q) since → IsDumped s.linked.images blocks (setting_of s.conf) why c d r q e (counts k l x z 0) w
    unlined why w is h = Untold (later (subst (λ (b : Bool). IsPut b (HasStopLine why w r q) since) is h)) quiet

    pub without_image : (result : Result (Unit {0}) Fault) (answer : Status) → answer ≡ status_of_run result → is_dumped result put ≡ false → Ran result → Shown answer
    without_image result answer told none ran = subst Shown (sym told) (by result none ran)
      where
        by : (result : Result (Unit {0}) Fault) → is_dumped result put ≡ false → Ran result → Shown (status_of_run result)
        by (Ok x) is ran = absurd (false≢true (sym is))
        by (Err Sink) is ran = λ input left. start input _ (PartInRun (part ran input left) quiet)
        by (Err (Stopped Input)) is ran = λ input left. start input _ (stop Input _ (λ w st line. quiet) ran input left)
        by (Err (Stopped NoRoom)) is ran = λ input left. start input _ (stop NoRoom _ (λ w st line. unlined NoRoom w is line) ran input left)
        by (Err (Stopped SwapFull)) is ran = λ input left. start input _ (stop SwapFull _ (λ w st line. unlined SwapFull w is line) ran input left)
        by (Err (Stopped SwapFault)) is ran = λ input left. start input _ (FaultInRun (stop SwapFault _ (λ w st line. quiet) ran input left))

  -- an image, or a front of it
  abbrev pub Images : Wrote → Type 0
  Images w = (v : World) → stands v → GainsByWrote s.linked.images blocks (setting_of s.conf) v c d w

  image_at_end : (w : Wrote) (answer : Status) → answer ≡ status_of_image w status.Fine → Images w → Ran (Ok tt) → Shown answer
  image_at_end w answer is images ran = subst Shown (sym is) (by w images)
    where
      by : (w : Wrote) → Images w → Shown (status_of_image w status.Fine)
      by wrote.Done images = λ input left. start input _ (over _ images ran input left)
      by wrote.SinkFault images = λ input left. start input _ (PartAtImage (AtEnd (over _ images ran input left)))
      by wrote.SwapFault images = λ input left. start input _ (FaultAtImage (AtEnd (over _ images ran input left)))

  module _ (lined : put ≡ true) where
    has_line : (why : Stop) (w : World) → IsPut put (HasStopLine why w r q) since → HasStopLine why w r q
    has_line why w h = subst (λ (b : Bool). IsPut b (HasStopLine why w r q) since) lined h

    unfinished : (why : Stop) → IsForRoom why → ((v : World) → stands v → GainsFront s.linked.images blocks (setting_of s.conf) v c d) → Ran (Err (Stopped why))
        → (input : List ℕ) → i ≡ Some input → IsUnfinished blocks (start_of s input built) j c d r q e (counts k l x z 0)
    unfinished why room cut ran input left = AtStop why room (stop why _ (λ w st line. (has_line why w line, cut w st)) ran input left)

    by_why : (why : Stop) → IsForRoom why → (w : Wrote) → Images w → Ran (Err (Stopped why)) → Shown (status_of_image w (status_of (Stopped why)))
    by_why NoRoom room wrote.Done images ran = λ input left. start input _ (stop NoRoom _ (λ w st line. Told (has_line NoRoom w line) (images w st)) ran input left)
    by_why SwapFull room wrote.Done images ran = λ input left. start input _ (stop SwapFull _ (λ w st line. Told (has_line SwapFull w line) (images w st)) ran input left)
    by_why why room wrote.SinkFault images ran = λ input left. start input _ (PartAtImage (unfinished why room images ran input left))
    by_why why room wrote.SwapFault images ran = λ input left. start input _ (FaultAtImage (unfinished why room images ran input left))
    by_why Input room wrote.Done images ran = absurd room
    by_why SwapFault room wrote.Done images ran = absurd room

    image_at_stop : (why : Stop) → IsForRoom why → (w : Wrote) (answer : Status) → answer ≡ status_of_image w (status_of (Stopped why)) → Images w → Ran (Err (Stopped why)) → Shown answer
    image_at_stop why room w answer is images ran = subst Shown (sym is) (by_why why room w images ran)

  -- behind a run at whose end an image is put
  pub with_image : (result : Result (Unit {0}) Fault) (w : Wrote) (whole answer : Status) → whole ≡ status_of_run result → answer ≡ status_of_image w whole → is_dumped result put ≡ true
      → Images w → Ran result → Shown answer
  with_image (Ok x) w whole answer told is dumped images ran = image_at_end w answer (is ∙ ap (status_of_image w) told) images ran
  with_image (Err (Stopped NoRoom)) w whole answer told is dumped images ran = image_at_stop dumped NoRoom tt w answer (is ∙ ap (status_of_image w) told) images ran
  with_image (Err (Stopped SwapFull)) w whole answer told is dumped images ran = image_at_stop dumped SwapFull tt w answer (is ∙ ap (status_of_image w) told) images ran
  with_image (Err (Stopped Input)) w whole answer told is dumped images ran = absurd (false≢true dumped)
  with_image (Err (Stopped SwapFault)) w whole answer told is dumped images ran = absurd (false≢true dumped)
  with_image (Err Sink) w whole answer told is dumped images ran = absurd (false≢true dumped)
