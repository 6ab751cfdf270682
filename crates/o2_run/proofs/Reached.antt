-- How a run goes on, and how it ends.
use Rattle.std.proofs.Common.{◌≡◌, ℕ, suc, ◌+◌, ◌<◌, ◌≤◌, Bool, true, false, not, List, [], ◌++◌, Option, Some, None, ◌⊎◌, inl, inr, Ok, Err, ap, sym, ◌∙◌, refl, arith, ◌||◌}
use Rattle.std.proofs.Common.{◌==◌, ◌-◌, ◌∷◌, if◌then◌else◌, below_more, append-nil, append_assoc, length, length-append, subst}
use Rattle.o2_outer.specs.Texts.{Rose, Gains}
use Rattle.o2_world.specs.World.{Line, World, Setting}
use Rattle.o2_world.specs.Text.{lines_text}
use Rattle.o2_world.specs.Run.{IsBelowLast, any_lives, after, is_over, last_line, ready, report, words_done, HasPartTexts, InOpening, Between, AtLastLine}
use Rattle.o2_world.proofs.Words.{done_more, words_less}
use Rattle.o2_run.specs.Room.{AllFits, Fits}
use Rattle.o2_run.specs.Turn.{NoWord, StepsOn, StepsInPart, IsClosed, IsClosedInPart, Turns}
use Rattle.o2_run.specs.Pieces.{Counts, counts, told_counts, Hands, FailedHands, FailsBehind, FailsIn, FailsInOpening, FailsInStep, TurnHands, step_puts, pieces, AmongLines, AtLine, AtPiece, BeforeLines}
use Rattle.o2_run.specs.Ended.{AllFitRun, FitsBelow, HasReached, HasWholeRun, HasStoppedTexts, HasPartRun, HandsPart, HasTexts}
use Rattle.o2_run.proofs.FailedLines.{between_behind}
use Rattle.o2_run.proofs.Behind.{all_done, all_fits_here, failed_there, hands_there, input_same, on_there, over_is, part_there, step_same}
use Rattle.o2_run.specs.declared.fault.Fault.TheVariants.{Sink}
use Rattle.o2_run.specs.declared.steps.Turn.{Turn}
use Rattle.o2_run.specs.declared.steps.Turn.TheVariants.{Ran, Discarded, AllEnded, BudgetSpent}
use Rattle.o2_run.specs.declared.steps.Stop.{Stop}

neither : (a b : Bool) (x y : List ℕ) → (a || b) ≡ false → (if a then x else (if b then y else [])) ≡ []
neither true b x y e = cc
neither false true x y e = cc
neither false false x y e = refl

no_last : (w : World) → is_over w ≡ false → last_line w ≡ []
no_last w e = neither (not (any_lives w.processes)) (w.dispatch.budget == 0) _ _ e

report_so_far : (w : World) → is_over w ≡ false → report w ≡ lines_text w.lines
report_so_far w e = ap (λ x. lines_text w.lines ++ x) (no_last w e) ∙ append-nil (lines_text w.lines)

-- a step that isn't behind the end is one of the run
pub below_with : (s : Setting) (w : World) (k : ℕ) → ((j : ℕ) → j < k → is_over (after s w j) ≡ false) → is_over (after s w k) ≡ false → IsBelowLast s w k
below_with s w k before now = λ j le. let P : ℕ → Type 0 = λ i. is_over (after s w i) ≡ false in below_more P k before now j (omega (arith, le))

-- puts behind puts: what was handed so far are the lines ahead of what follows
module _ (c d e r q p ahead so_far : ℕ) (x y : Option (List ℕ)) where
  pub hands_more : (done more lines : ℕ) → Hands (counts c d r q ahead) done so_far → Hands (told_counts d e q p so_far x y) more lines → Hands (counts c e r p ahead) (done + more) lines
  hands_more done more lines a b = record { to_console = omega (arith, a.to_console, b.to_console); to_report = omega (arith, a.to_report, b.to_report) }

  -- lines alone
  pub hands_last : (done lines : ℕ) → Hands (counts c d r q ahead) done so_far → Hands (told_counts d e q p so_far x y) 0 lines → Hands (counts c e r p ahead) done lines
  hands_last done lines a b = record { to_console = omega (arith, a.to_console, b.to_console); to_report = omega (arith, a.to_report, b.to_report) }

sums : (c d e done more : ℕ) → d ≡ c + done → e ≡ d + more → e ≡ c + (done + more)
sums c d e done more a b = omega (arith, a, b)

-- a sink failed in the next step
module _ (c d e r q p ahead : ℕ) (x y z : Option (List ℕ)) (done : ℕ) (w next : World) (hands : Hands (counts c d r q ahead) done (length w.lines)) (gains : Gains x y (lines_text w.lines)) where
  among : (lines : List Line) → next.lines ≡ w.lines ++ lines → FailsIn (length next.console - length w.console) lines d e y z q p
      → FailsBehind (done + step_puts w next) w next x z (counts c e r p ahead)
  among lines adds (AtPiece console same report) = BeforeLines (λ t is. same ∙ gains t is) (record {
    to_console = sums c d e done (step_puts w next) hands.to_console console;
    to_report = omega (arith, hands.to_report, report);
  })
  among lines adds (AtLine console f) = AmongLines f.whole f.failed f.rest
      (adds ∙ (ap (λ (ls : List Line). w.lines ++ ls) f.splits ∙ sym (append_assoc w.lines f.whole (f.failed ∷ f.rest))))
      (between_behind w.lines f.whole f.failed x y z gains f.to_report)
      (record {
        to_console = sums c d e done (step_puts w next) hands.to_console console;
        to_report = (let long = length-append w.lines f.whole in let puts = f.puts in omega (arith, hands.to_report, puts, long));
      })

  pub fails_further : FailsInStep w next (told_counts d e q p (length w.lines) y z) → FailsBehind (done + step_puts w next) w next x z (counts c e r p ahead)
  fails_further f = among f.lines f.adds f.fails

module _ (before_it now : World → Type 0) (swaps : Bool) (blocks : ℕ) (s : Setting) (w : World) (i l c d e r q p : Option (List ℕ)) (u v x y z o ahead : ℕ) where
  runs_to : (k : ℕ) → ((j : ℕ) → j < k → is_over (after s w j) ≡ false) → is_over (after s w k) ≡ false → (j : ℕ) → j < k + 1 → is_over (after s w j) ≡ false
  runs_to k before now = let P : ℕ → Type 0 = λ j. is_over (after s w j) ≡ false in below_more P k before now

  fits_to : (k : ℕ) → FitsBelow swaps s w k → Fits swaps s (after s w k) → (j : ℕ) → j < k + 1 → Fits swaps s (after s w j)
  fits_to k before now = let P : ℕ → Type 0 = λ j. Fits swaps s (after s w j) in below_more P k before now

  one_more : (h : HasReached before_it swaps s w i c d r q (counts u v y z ahead)) → StepsOn now swaps s (after s w h.steps) l d e q p
      → Hands (told_counts v x z o (length (after s w h.steps).lines) q p) (step_puts (after s w h.steps) (after s w (suc h.steps))) (length (after s w (suc h.steps)).lines)
      → HasReached now swaps s w l c e r p (counts u x y o ahead)
  one_more h on puts = record {
    steps = suc h.steps;
    words = 0;
    stands = on.stands;
    few = omega arith;
    runs = λ j below. runs_to h.steps h.runs on.runs j (omega (arith, below));
    room = λ j below. fits_to h.steps h.room on.room j (omega (arith, below));
    input = on.input;
    to_console = λ t x. on.to_console t (h.to_console t x);
    to_report = λ t x. on.to_report t (h.to_report t x);
    hands = hands_more u v x y z o ahead (length (after s w h.steps).lines) q p (pieces s w h.steps) _ _ h.hands puts;
  }

  closed_texts : (h : HasReached before_it swaps s w i c d r q (counts u v y z ahead)) (lives : Bool) → IsClosed now (after s w h.steps) lives l d e q p
      → Hands (told_counts v x z o (length (after s w h.steps).lines) q p) 0 (length (after s w h.steps).lines + 1) → HasWholeRun swaps s w l c e r p (counts u x y o ahead)
  closed_texts h lives end puts = record {
    texts = record {
      last = h.steps;
      is_last = record { over = end.over; first = h.runs };
      to_console = λ t x. end.to_console ∙ h.to_console t x;
      to_report = λ t x. end.to_report t (h.to_report t x);
    };
    room = h.room;
    input = end.input;
    hands = hands_last u v x y z o ahead (length (after s w h.steps).lines) q p (pieces s w h.steps) _ h.hands puts;
  }

  closed : (h : HasReached before_it swaps s w i c d r q (counts u v y z ahead)) (lives : Bool) → IsClosed now (after s w h.steps) lives l d e q p
      → Hands (told_counts v x z o (length (after s w h.steps).lines) q p) 0 (length (after s w h.steps).lines + 1) → (since : Type 0) → HasTexts now swaps blocks s w l c e r p since (counts u x y o ahead) (Ok tt)
  unfolding closed_texts
  closed h lives end puts since = (closed_texts h lives end puts, end.stands)

  part_texts : (h : HasReached before_it swaps s w i c d r q (counts u v y z ahead)) → StepsInPart (λ _. Unit {0}) swaps s (after s w h.steps) l d e q p → HasPartTexts s w c e r p
  part_texts h part = Between h.steps (λ j le. runs_to h.steps h.runs part.runs j (omega (arith, le)))
      (λ t x. part.to_console t (h.to_console t x))
      (λ t x. let y = part.to_report t (h.to_report t x) in
      (y.0, y.1, (rw (report_so_far (after s w h.steps) part.runs) y.2.0, (y.2.1.0 ++ last_line (after s w (suc h.steps)), ap (λ z. z ++ last_line (after s w (suc h.steps))) y.2.1.1 ∙ append_assoc y.0 y.2.1.0 (last_line (after s w (suc h.steps)))))))
      (elim part.in_order [
        | inl same ↦ inl (λ t x. same ∙ h.to_report t x)
        | inr goes ↦ inr (λ t x. goes t (h.to_console t x))
      ])

  last_texts : (h : HasReached before_it swaps s w i c d r q (counts u v y z ahead)) → IsClosedInPart now (after s w h.steps) l d e q p → HasPartTexts s w c e r p
  last_texts h end = AtLastLine h.steps (record { over = end.over; first = h.runs })
      (λ t x. end.to_console ∙ h.to_console t x)
      (λ t x. end.to_report t (h.to_report t x))

  -- a sink failed, in a step
  in_step : (h : HasReached before_it swaps s w i c d r q (counts u v y z ahead)) → StepsInPart (λ _. Unit {0}) swaps s (after s w h.steps) l d e q p
      → (now (ready (after s w h.steps)) ⊎ now (after s w (suc h.steps)))
      → FailedHands s (after s w h.steps) (told_counts v x z o (length (after s w h.steps).lines) q p) → (since : Type 0) → HasTexts now swaps blocks s w l c e r p since (counts u x y o ahead) (Err Sink)
  unfolding part_texts
  in_step h part stands puts since = (
    record {
      texts = part_texts h part;
      room = λ j below. fits_to h.steps h.room part.room j (omega (arith, below));
      input = part.input;
      hands = fails_further u v x y z o ahead r q p (pieces s w h.steps) (after s w h.steps) (after s w (suc h.steps)) h.hands h.to_report (puts.in_step part.runs);
    },
    stands,
  )

  -- or in the last line
  at_end : (h : HasReached before_it swaps s w i c d r q (counts u v y z ahead)) → IsClosedInPart now (after s w h.steps) l d e q p
      → FailedHands s (after s w h.steps) (told_counts v x z o (length (after s w h.steps).lines) q p) → (since : Type 0) → HasTexts now swaps blocks s w l c e r p since (counts u x y o ahead) (Err Sink)
  unfolding last_texts
  at_end h end puts since =
      (record { texts = last_texts h end; room = h.room; input = end.input; hands = hands_last u v x y z o ahead (length (after s w h.steps).lines) q p (pieces s w h.steps) _ h.hands (puts.at_end end.over) }, inl end.stands)

  -- The turn begins behind the words that are done.

  abbrev here : HasReached before_it swaps s w i c d r q (counts u v y z ahead) → World
  here h = words_done h.words (after s w h.steps)

  pub stopped_anyhow : (h : HasReached before_it swaps s w i c d r q (counts u v y z ahead))
      → (NoWord (here h) × StepsInPart now swaps s (here h) l d e q p) ⊎ IsClosedInPart now (here h) l d e q p
      → FailedHands s (here h) (told_counts v x z o (length (here h).lines) q p) → (since : Type 0) → HasTexts now swaps blocks s w l c e r p since (counts u x y o ahead) (Err Sink)
  stopped_anyhow h (inl part) puts since =
      let there = after s w h.steps in
      in_step h (part_there s h.words there h.few now swaps l d e q p part.1)
      (elim part.1.stands [
        | inl old ↦ inl (subst now (all_done s h.words there h.few part.0) old)
        | inr new ↦ inr (subst now (step_same s h.words there h.few) new)
      ])
      (failed_there s h.words there h.few v x z o q p puts) since
  stopped_anyhow h (inr end) puts since =
      let there = after s w h.steps in
      at_end h (subst (λ (y : World). IsClosedInPart now y l d e q p) (over_is s h.words there h.few end.over) end) (failed_there s h.words there h.few v x z o q p puts) since

  closed_there : (h : HasReached before_it swaps s w i c d r q (counts u v y z ahead)) (lives : Bool) → IsClosed now (here h) lives l d e q p
      → Hands (told_counts v x z o (length (after s w h.steps).lines) q p) 0 (length (after s w h.steps).lines + 1) → (since : Type 0) → HasTexts now swaps blocks s w l c e r p since (counts u x y o ahead) (Ok tt)
  closed_there h lives end puts since =
      closed h lives (subst (λ (y : World). IsClosed now y lives l d e q p) (over_is s h.words (after s w h.steps) h.few end.over) end) puts since

  pub closed_by : (t : Turn) → (t ≡ AllEnded) ⊎ (t ≡ BudgetSpent)
      → (count : ℕ) (h : HasReached before_it swaps s w i c d r q (counts u v y z ahead)) (put : Bool) (since : Type 0)
      → Turns now swaps count s (here h) put l d e q p t
      → TurnHands s (here h) (told_counts v x z o (length (here h).lines) q p) t
      → HasTexts now swaps blocks s w l c e r p since (counts u x y o ahead) (Ok tt)
  closed_by t (inl is) count h put since turns puts =
      closed_there h false (subst (λ (a : Turn). Turns now swaps count s (here h) put l d e q p a) is turns)
      (subst (λ (a : Turn). TurnHands s (after s w h.steps) (told_counts v x z o (length (after s w h.steps).lines) q p) a) is (hands_there s h.words (after s w h.steps) h.few v x z o q p t puts)) since
  closed_by t (inr is) count h put since turns puts =
      closed_there h true (subst (λ (a : Turn). Turns now swaps count s (here h) put l d e q p a) is turns)
      (subst (λ (a : Turn). TurnHands s (after s w h.steps) (told_counts v x z o (length (after s w h.steps).lines) q p) a) is (hands_there s h.words (after s w h.steps) h.few v x z o q p t puts)) since

  ran_by : (count : ℕ) (h : HasReached before_it swaps s w i c d r q (counts u v y z ahead)) (put : Bool)
      → Turns now swaps count s (here h) put l d e q p Ran
      → TurnHands s (here h) (told_counts v x z o (length (here h).lines) q p) Ran
      → HasReached now swaps s w l c e r p (counts u x y o ahead)
  ran_by count h put turns puts =
      let there = after s w h.steps in
      one_more h (on_there s h.words there h.few now swaps l d e q p turns.1) (hands_there s h.words there h.few v x z o q p Ran puts)

  -- one word more
  word_by : (count : ℕ) (h : HasReached before_it swaps s w i c d r q (counts u v y z ahead)) (put : Bool)
      → Turns now swaps count s (here h) put l d e q p Discarded
      → TurnHands s (here h) (told_counts v x z o (length (here h).lines) q p) Discarded
      → HasReached now swaps s w l c e r p (counts u x y o ahead)
  word_by count h put turns puts =
      let there = after s w h.steps in
      let left = words_less h.words there h.few in
      let next = turns.next in
      record {
        steps = h.steps;
        words = h.words + 1;
        stands = subst now (sym (done_more h.words 1 there)) turns.stands;
        few = omega (arith, left, next);
        runs = h.runs;
        room = h.room;
        input = turns.input ∙ ap Some (input_same s h.words there h.few);
        to_console = λ t x. turns.to_console ∙ h.to_console t x;
        to_report = λ t x. turns.to_report ∙ h.to_report t x;
        hands = hands_last u v x y z o ahead (length there.lines) q p (pieces s w h.steps) _ h.hands (hands_there s h.words there h.few v x z o q p Discarded puts);
      }

  pub went_by : (t : Turn) → (t ≡ Ran) ⊎ (t ≡ Discarded) → (count : ℕ) (h : HasReached before_it swaps s w i c d r q (counts u v y z ahead)) (put : Bool)
      → Turns now swaps count s (here h) put l d e q p t
      → TurnHands s (here h) (told_counts v x z o (length (here h).lines) q p) t
      → HasReached now swaps s w l c e r p (counts u x y o ahead)
  went_by t (inl is) count h put turns puts =
      ran_by count h put (subst (λ (a : Turn). Turns now swaps count s (here h) put l d e q p a) is turns) (subst (λ (a : Turn). TurnHands s (here h) (told_counts v x z o (length (here h).lines) q p) a) is puts)
  went_by t (inr is) count h put turns puts =
      word_by count h put (subst (λ (a : Turn). Turns now swaps count s (here h) put l d e q p a) is turns) (subst (λ (a : Turn). TurnHands s (here h) (told_counts v x z o (length (here h).lines) q p) a) is puts)

-- what the next turn supposes of the input, and of the memory
pub input_at : {now : World → Type 0} {swaps : Bool} {s : Setting} {w : World} {l c e r p : Option (List ℕ)} {n : Counts} → (h : HasReached now swaps s w l c e r p n)
    → l ≡ Some (words_done h.words (after s w h.steps)).input
input_at {now} {swaps} {s} {w} h = h.input ∙ ap Some (sym (input_same s h.words (after s w h.steps) h.few))

pub fits_at : {now : World → Type 0} {swaps : Bool} {s : Setting} {w : World} {l c e r p : Option (List ℕ)} {n : Counts} → (h : HasReached now swaps s w l c e r p n)
    → AllFitRun s w → is_over (words_done h.words (after s w h.steps)) ≡ false → AllFits s (words_done h.words (after s w h.steps))
fits_at {now} {swaps} {s} {w} h fits = all_fits_here s h.words (after s w h.steps) h.few (λ runs. fits h.steps (below_with s w h.steps h.runs runs))

-- of a text that isn't told nothing is owed
pub gains_untold : (c : Option (List ℕ)) (piece : List ℕ) → Gains None c piece
gains_untold c piece = λ t e. absurd (cc)

-- a count that rose since a later time rose since an earlier
pub rose_since : (before mid now : ℕ) → before ≤ mid → Rose mid now → Rose before now
rose_since before mid now later rose = grind arith

-- The same, from an earlier time: lines that were put since then are ahead no more, and the report's count may have risen.
module _ (c d r q z ahead : ℕ) (put : q ≡ r + ahead) where
  hands_from : (done lines : ℕ) → Hands (counts c d q z ahead) done lines → Hands (counts c d r z 0) done lines
  hands_from done lines h = record { to_console = h.to_console; to_report = omega (arith, put, h.to_report) }

  opening_from : (lines : List Line) (k l : Option (List ℕ)) → FailsInOpening lines k l (counts c d q z ahead) → FailsInOpening lines k l (counts c d r z 0)
  opening_from lines k l h = (let f = h.in_line in record {
    to_console = h.to_console;
    in_line = record { whole = f.whole; failed = f.failed; rest = f.rest; splits = f.splits; to_report = f.to_report; puts = omega (arith, put, f.puts) };
  })

  behind_from : (pieces : ℕ) (w next : World) (k l : Option (List ℕ)) → FailsBehind pieces w next k l (counts c d q z ahead) → FailsBehind pieces w next k l (counts c d r z 0)
  behind_from pieces w next k l (BeforeLines gains hands) = BeforeLines gains (hands_from pieces (length w.lines) hands)
  behind_from pieces w next k l (AmongLines whole failed rest splits between hands) = AmongLines whole failed rest splits between (hands_from pieces (length (w.lines ++ whole) + 1) hands)

  hands_part : (s : Setting) (w : World) (i j k l : Option (List ℕ)) (t : HasPartTexts s w i j k l) → HandsPart s w k l (counts c d q z ahead) t → HandsPart s w k l (counts c d r z 0) t
  hands_part s w i j k l (InOpening x y) h = opening_from w.lines k l h
  hands_part s w i j k l (Between n below x y order) h = behind_from (pieces s w (suc n)) (after s w n) (after s w (suc n)) k l h
  hands_part s w i j k l (AtLastLine n last x y) h = hands_from (pieces s w n) (length (after s w n).lines + 1) h

module _ (swaps : Bool) (s : Setting) (w : World) (l c e r p : Option (List ℕ)) (u v x y z ahead : ℕ) (put : y ≡ x + ahead) where
  pub whole_from : HasWholeRun swaps s w l c e r p (counts u v y z ahead) → HasWholeRun swaps s w l c e r p (counts u v x z 0)
  whole_from t = record { texts = t.texts; room = t.room; input = t.input; hands = hands_from u v x y z ahead put _ _ t.hands }

pub part_from : (swaps : Bool) (s : Setting) (w : World) (l c e r p : Option (List ℕ)) (u v x y z ahead : ℕ) → y ≡ x + ahead → HasPartRun swaps s w l c e r p (counts u v y z ahead) → HasPartRun swaps s w l c e r p (counts u v x z 0)
part_from swaps s w l c e r p u v x y z ahead put t = record { texts = t.texts; room = t.room; input = t.input; hands = hands_part u v x y z ahead put s w c e r p t.texts t.hands }

pub stopped_from : (swaps : Bool) (blocks : ℕ) (s : Setting) (w : World) (why : Stop) (l c e r p : Option (List ℕ)) (fault since : Type 0) → (fault → since) → (u v x y z ahead : ℕ) → y ≡ x + ahead
    → HasStoppedTexts swaps blocks s w why l c e r p fault (counts u v y z ahead) → HasStoppedTexts swaps blocks s w why l c e r p since (counts u v x z 0)
stopped_from swaps blocks s w why l c e r p fault since later u v x y z ahead put t = record {
  steps = t.steps;
  below = t.below;
  room = t.room;
  cause = t.cause;
  fits = t.fits;
  input = t.input;
  to_console = t.to_console;
  to_report = t.to_report;
  whole = elim t.whole [
    | inl gains ↦ inl gains
    | inr f ↦ inr (later f)
  ];
  hands = hands_from u v x y z ahead put _ _ t.hands;
}
