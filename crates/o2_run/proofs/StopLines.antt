-- How a run ends, with the fate of its stop line.
use Rattle.std.proofs.Common.{◌≡◌, ℕ, ◌+◌, ◌<◌, ◌≤◌, Bool, true, false, List, ◌++◌, Option, ◌⊎◌, inl, inr, Err, ◌∙◌, refl, arith, below_more, length, subst}
use Rattle.o2_outer.specs.Texts.{Gains, Continues, Rose}
use Rattle.o2_world.specs.World.{World, Setting}
use Rattle.o2_world.specs.Text.{lines_text}
use Rattle.o2_world.specs.Run.{after, is_over, words_done}
use Rattle.o2_run.specs.Turn.{IsStopped, NoWord, Turns, LineIs}
use Rattle.o2_run.specs.Faults.{fault_turn}
use Rattle.o2_run.specs.Stops.{StopsFor, stop_line}
use Rattle.o2_run.specs.Pieces.{Counts, counts, told_counts, Hands, TurnHands, pieces}
use Rattle.std.specs.Prelude.{Result, Ok}
use Rattle.o2_run.specs.Ended.{HasReached, HasTexts}
use Rattle.o2_run.specs.declared.fault.Fault.{Fault}
use Rattle.o2_run.specs.declared.fault.Fault.TheVariants.{Sink, Stopped}
use Rattle.o2_run.specs.declared.steps.Turn.{Turn}
use Rattle.o2_run.specs.declared.steps.Stop.{Stop}
use Rattle.o2_run.specs.declared.steps.Stop.TheVariants.{Input, NoRoom, SwapFull, SwapFault}
use Rattle.o2_run.proofs.Behind.{all_done, one_put, stop_there}
use Rattle.o2_run.proofs.Reached.{hands_last, stopped_anyhow}
use Rattle.o2_run.specs.Lined.{HasLined, IsPut, LastPutFailed}

-- the put behind this state was the last one, and it failed
pub failed_last : {S : Type 0} (puts faults : S → ℕ) (old before new : S) → faults old ≤ faults before → puts new ≡ puts before + 1 → Rose (faults before) (faults new)
    → LastPutFailed puts faults old new
failed_last puts faults old before new later one rose = record { before = before; later = later; one_put = one; rose = rose }

-- seen from an earlier time
pub failed_since : {S : Type 0} (puts faults : S → ℕ) (start old new : S) → faults start ≤ faults old → LastPutFailed puts faults old new → LastPutFailed puts faults start new
failed_since puts faults start old new earlier f = record { before = f.before; later = omega (arith, earlier, f.later); one_put = f.one_put; rose = f.rose }

-- a stop line is one put
one_line : (v x z o n : ℕ) (a b : Option (List ℕ)) → Hands (told_counts v x z o n a b) 0 (n + 1) → o ≡ z + 1
one_line v x z o n a b h = omega (arith, h.to_report)

either : (put : Bool) (A B : Type 0) → IsPut put A B → A ⊎ B
either true A B h = inl h
either false A B h = inr h

module _ (before_it now : World → Type 0) (swaps : Bool) (blocks : ℕ) (s : Setting) (w : World) (i l c d e r q p : Option (List ℕ)) (u v x y z o ahead : ℕ) where
  runs_to : (k : ℕ) → ((j : ℕ) → j < k → is_over (after s w j) ≡ false) → is_over (after s w k) ≡ false → (j : ℕ) → j < k + 1 → is_over (after s w j) ≡ false
  runs_to k before now = let P : ℕ → Type 0 = λ j. is_over (after s w j) ≡ false in below_more P k before now

  put_told : (k : ℕ) (why : Stop) (put : Bool) (fault : Type 0) → (put ≡ true → Continues q p (lines_text (after s w k).lines) (lines_text (after s w k).lines ++ stop_line why)) → (put ≡ false → fault)
      → Gains r q (lines_text (after s w k).lines) → IsPut put (Gains r p (lines_text (after s w k).lines ++ stop_line why)) fault
  put_told k why true fault whole failed gains = λ t x. whole refl t (gains t x)
  put_told k why false fault whole failed gains = failed refl

  -- where the last turn begins
  abbrev here : HasReached before_it swaps s w i c d r q (counts u v y z ahead) → World
  here h = words_done h.words (after s w h.steps)

  lined_stop : (count : ℕ) → count ≡ blocks → (h : HasReached before_it swaps s w i c d r q (counts u v y z ahead)) (why : Stop) (put : Bool) (since : Type 0) → (put ≡ false → since) → NoWord (here h) × IsStopped now swaps count s (here h) why put l d e q p
      → Hands (told_counts v x z o (length (here h).lines) q p) 0 (length (here h).lines + 1) → HasLined now swaps blocks s w l c e r p since (counts u x y o ahead) put (Err (Stopped why))
  lined_stop count same h why put since failed stopped puts =
      let there = after s w h.steps in
      let stop = stop_there s h.words there h.few now swaps count why put l d e q p stopped.1 in (
        record {
          steps = h.steps;
          below = λ j le. runs_to h.steps h.runs stop.runs j (omega (arith, le));
          room = h.room;
          cause = subst (λ (n : ℕ). StopsFor n s there why) same stop.cause;
          fits = stop.fits;
          input = stop.input;
          to_console = λ t x. stop.to_console ∙ h.to_console t x;
          to_report = λ t x. stop.to_report t (h.to_report t x);
          whole = either put _ _ (put_told h.steps why put since stop.whole failed h.to_report);
          hands = hands_last u v x y z o ahead (length there.lines) q p (pieces s w h.steps) _ h.hands (one_put s h.words there h.few v x z o q p puts);
        },
        subst now (all_done s h.words there h.few stopped.0) stopped.1.stands,
        put_told h.steps why put since stop.whole failed h.to_report,
      )

  lined : (f : Fault) (count : ℕ) → count ≡ blocks → (h : HasReached before_it swaps s w i c d r q (counts u v y z ahead)) (put : Bool) (fault since : Type 0) → (o ≡ z + 1 → fault → since) → LineIs put fault (fault_turn f)
      → Turns now swaps count s (here h) put l d e q p (fault_turn f) → TurnHands s (here h) (told_counts v x z o (length (here h).lines) q p) (fault_turn f)
      → HasLined now swaps blocks s w l c e r p since (counts u x y o ahead) put (Err f)
  lined Sink count same h put fault since later line turns puts = stopped_anyhow before_it now swaps blocks s w i l c d e r q p u v x y z o ahead h turns puts since
  lined (Stopped Input) count same h put fault since later line turns puts = lined_stop count same h Input put since (λ e. later (one_line v x z o (length (here h).lines) q p puts) (line e)) turns puts
  lined (Stopped NoRoom) count same h put fault since later line turns puts = lined_stop count same h NoRoom put since (λ e. later (one_line v x z o (length (here h).lines) q p puts) (line e)) turns puts
  lined (Stopped SwapFull) count same h put fault since later line turns puts = lined_stop count same h SwapFull put since (λ e. later (one_line v x z o (length (here h).lines) q p puts) (line e)) turns puts
  lined (Stopped SwapFault) count same h put fault since later line turns puts = lined_stop count same h SwapFault put since (λ e. later (one_line v x z o (length (here h).lines) q p puts) (line e)) turns puts

  -- by the answer of the last turn
  pub lined_by : (t : Turn) (f : Fault) → t ≡ fault_turn f → (count : ℕ) → count ≡ blocks → (h : HasReached before_it swaps s w i c d r q (counts u v y z ahead)) (put : Bool) (fault since : Type 0) → (o ≡ z + 1 → fault → since) → LineIs put fault t
      → Turns now swaps count s (here h) put l d e q p t → TurnHands s (here h) (told_counts v x z o (length (here h).lines) q p) t → HasLined now swaps blocks s w l c e r p since (counts u x y o ahead) put (Err f)
  lined_by t f is count same h put fault since later line turns puts =
      lined f count same h put fault since later (subst (λ (a : Turn). LineIs put fault a) is line)
      (subst (λ (a : Turn). Turns now swaps count s (here h) put l d e q p a) is turns) (subst (λ (a : Turn). TurnHands s (here h) (told_counts v x z o (length (here h).lines) q p) a) is puts)

-- without the fate of its line
pub texts_of_lined : (f : World → Type 0) (swaps : Bool) (blocks : ℕ) (s : Setting) (w : World) (i c d r q : Option (List ℕ)) (e : Type 0) (n : Counts) (put : Bool) (x : Result (Unit {0}) Fault)
    → HasLined f swaps blocks s w i c d r q e n put x → HasTexts f swaps blocks s w i c d r q e n x
texts_of_lined f swaps blocks s w i c d r q e n put (Ok x) h = h
texts_of_lined f swaps blocks s w i c d r q e n put (Err Sink) h = h
texts_of_lined f swaps blocks s w i c d r q e n put (Err (Stopped why)) h = (h.0, h.1)
