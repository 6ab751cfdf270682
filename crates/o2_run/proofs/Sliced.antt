-- A run goes on behind a slice: its steps put nothing and take nothing.
use Rattle.std.proofs.Common.{◌≡◌, ℕ, zero, suc, ◌-◌, ◌<◌, Bool, false, List, Option, Some, ap, sym, ◌∙◌, refl, subst, arith, below_more, length}
use Rattle.o2_outer.specs.Texts.{Gains}
use Rattle.o2_world.specs.World.{World, Setting, Line}
use Rattle.o2_world.specs.Text.{lines_text}
use Rattle.o2_world.specs.Run.{after, is_over, step, words_done}
use Rattle.o2_run.specs.Room.{Fits}
use Rattle.o2_run.specs.Pieces.{Counts, Hands, pieces, puts_of, step_puts}
use Rattle.o2_run.specs.Ended.{HasReached}
use Rattle.o2_run.specs.Slice.{AreSilent, IsSilent, Slices}
use Rattle.o2_run.proofs.Behind.{after_same, silent_there}

no_puts : (v u : World) → u.console ≡ v.console → step_puts v u ≡ 0
no_puts v u same = ap (λ (c : List ℕ). puts_of (length c - length v.console)) same ∙ ap puts_of (none (length v.console))
  where
    none : (n : ℕ) → n - n ≡ 0
    none n = omega arith

-- behind so many steps, whatever machine stands for the world there
record IsBehind (swaps : Bool) (s : Setting) (w : World) (l c e r p : Option (List ℕ)) (n : Counts) (k : ℕ) : Type 0 where
  runs : (j : ℕ) → j < k → is_over (after s w j) ≡ false
  room : (j : ℕ) → j < k → Fits swaps s (after s w j)
  input : l ≡ Some (after s w k).input
  to_console : Gains c e (after s w k).console
  to_report : Gains r p (lines_text (after s w k).lines)
  hands : Hands n (pieces s w k) (length (after s w k).lines)

-- behind k steps more from a world of the run
record IsFurther (swaps : Bool) (s : Setting) (w : World) (l c e r p : Option (List ℕ)) (n : Counts) (v : World) (k : ℕ) : Type 0 where
  steps : ℕ
  behind : IsBehind swaps s w l c e r p n steps
  there : after s w steps ≡ after s v k

module _ (swaps : Bool) (s : Setting) (w : World) (l c e r p : Option (List ℕ)) (n : Counts) where
  abbrev Behind : ℕ → Type 0
  Behind k = IsBehind swaps s w l c e r p n k

  one : (k : ℕ) → Behind k → IsSilent swaps s (after s w k) → Behind (suc k)
  one k h x =
      let P : ℕ → Type 0 = λ j. is_over (after s w j) ≡ false in
      let Q : ℕ → Type 0 = λ j. Fits swaps s (after s w j) in
      let puts = no_puts (after s w k) (after s w (suc k)) x.console in
      let same = ap (λ (ls : List Line). length ls) x.lines in
      record {
        runs = λ j below. below_more P k h.runs x.runs j (omega (arith, below));
        room = λ j below. below_more Q k h.room x.room j (omega (arith, below));
        input = h.input ∙ ap Some (sym x.input);
        to_console = subst (λ (z : List ℕ). Gains c e z) (sym x.console) h.to_console;
        to_report = subst (λ (z : List Line). Gains r p (lines_text z)) (sym x.lines) h.to_report;
        hands = record { to_console = omega (arith, h.hands.to_console, puts); to_report = omega (arith, h.hands.to_report, same) };
      }

  further : (m : ℕ) → Behind m → (k : ℕ) → AreSilent swaps s (after s w m) k → IsFurther swaps s w l c e r p n (after s w m) k
  further m h zero x = record { steps = m; behind = h; there = refl }
  further m h (suc k) x =
      let so_far = further m h k (λ j below. x j (omega (arith, below))) in
      record {
        steps = suc so_far.steps;
        behind = one so_far.steps so_far.behind (subst (IsSilent swaps s) (sym so_far.there) (x k (omega arith)));
        there = ap (step s) so_far.there;
      }

  pub sliced : (f g : World → Type 0) (k : ℕ) (h : HasReached f swaps s w l c e r p n) → Slices g swaps s (words_done h.words (after s w h.steps)) k → HasReached g swaps s w l c e r p n
  sliced f g zero h x = record {
    steps = h.steps;
    words = h.words;
    stands = x.stands;
    few = h.few;
    runs = h.runs;
    room = h.room;
    input = h.input;
    to_console = h.to_console;
    to_report = h.to_report;
    hands = h.hands;
  }
  sliced f g (suc k) h x =
      let v = after s w h.steps in
      let m = further h.steps (record { runs = h.runs; room = h.room; input = h.input; to_console = h.to_console; to_report = h.to_report; hands = h.hands }) (suc k) (silent_there s h.words v h.few swaps (suc k) x.silent) in
      record {
        steps = m.steps;
        words = 0;
        stands = subst g (after_same s h.words v h.few k ∙ sym m.there) x.stands;
        few = omega arith;
        runs = m.behind.runs;
        room = m.behind.room;
        input = m.behind.input;
        to_console = m.behind.to_console;
        to_report = m.behind.to_report;
        hands = m.behind.hands;
      }
