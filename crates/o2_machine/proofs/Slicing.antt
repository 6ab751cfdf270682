-- Steps of a turn that are done at once, as steps of the world.
use Rattle.std.proofs.Common.{◌≡◌, ℕ, zero, suc, ◌<◌, ◌≤◌, ◌==◌, ◌&&◌, not, if◌then◌else◌, Bool, true, false, List, length, ap, sym, ◌∙◌, refl, subst, arith}
use Rattle.std.specs.Prelude.{Option, Some, None, is_some, min}
use Rattle.std.proofs.lemmas.Bool.{false≢true}
use Rattle.o2_conf.proofs.Choice.{chosen_lives}
use Rattle.o2_conf.specs.Dispatch.{Dispatch, lives}
use Rattle.o2_run.specs.Slice.{AreSilent, Slices}
use Rattle.o2_sched.specs.Schedule.{Schedule, ahead_of, has_word, next_of}
use Rattle.o2_slices.specs.Laters.{StandsLater, counted_by}
use Rattle.o2_calls.specs.SharedActs.{AreSpelled}
use Rattle.o2_space.specs.Parts.{parts_in}
use Rattle.o2_space.specs.declared.space.Space.{Space}
use Rattle.o2_space.proofs.Spelling.{spelled_by, spelled_shape, spelled_to}
use Rattle.o2_stands.specs.Stands.{IsSetTo, Stands}
use Rattle.o2_store.specs.Shelf.{SameTables}
use Rattle.o2_world.specs.World.{Line, Setting, World}
use Rattle.o2_world.specs.Run.{after, is_over, next_dispatch, words_coming}
use Rattle.o2_world.proofs.StepTold.{told_along}
use Rattle.o2_run.specs.declared.steps.Turn.{Turn}
use Rattle.o2_machine.specs.Lasts.{stopped_of}
use Rattle.o2_machine.specs.StandsFor.{StandsFor}
use Rattle.o2_machine.specs.declared.last.Last.{Last}
use Rattle.o2_machine.specs.declared.machine.Machine.{Machine}
use Rattle.o2_machine.proofs.Turns.{any_is, any_of, no_word}

console_stays : (s : Setting) (w : World) (k : ℕ) → AreSilent true s w k → (after s w k).console ≡ w.console
console_stays s w zero x = refl
console_stays s w (suc k) x = (x k (omega arith)).console ∙ console_stays s w k (λ j below. x j (omega (arith, below)))

lines_stay : (s : Setting) (w : World) (k : ℕ) → AreSilent true s w k → (after s w k).lines ≡ w.lines
lines_stay s w zero x = refl
lines_stay s w (suc k) x = (x k (omega arith)).lines ∙ lines_stay s w k (λ j below. x j (omega (arith, below)))

-- where there is no last answer, none was final
pub not_stopped : (o : Option Last) (turn : Turn) → is_some o ≡ false → stopped_of o ≡ Some turn → ⊥
not_stopped None turn none e = cc
not_stopped (Some last) turn none e = false≢true (sym none)

-- what may be taken at once is of the turn that the next step is of, before which no word comes: no more steps than it has left, and no
-- more than the budget
pub record IsAhead (s : Schedule) (k : ℕ) : Type 0 where
  pub any : any_of s ≡ true
  pub wordless : has_word s ≡ false
  pub live : lives s.flags (next_of s).current ≡ true
  pub turn : k ≤ (next_of s).left
  pub budget : k ≤ s.dispatch.budget

by_test : (a : Bool) (l n k : ℕ) → k ≡ (if a then min l n else 0) → 0 < k → (a ≡ true) × (k ≡ min l n)
by_test true l n k e some = (refl, e)
by_test false l n k e some = absurd (omega (arith, e, some))

both_tests : (a b : Bool) → (a && not b) ≡ true → (a ≡ true) × (b ≡ false)
both_tests true true e = absurd (false≢true e)
both_tests true false e = (refl, refl)
both_tests false b e = absurd (false≢true e)

in_turn : (l n k : ℕ) → k ≡ min l n → k ≤ l
in_turn l n k e = omega (arith, e)

in_budget : (l n k : ℕ) → k ≡ min l n → k ≤ n
in_budget l n k e = omega (arith, e)

pub is_ahead : (s : Schedule) (k : ℕ) → k ≡ ahead_of s → 0 < k → IsAhead s k
is_ahead s k is some =
    let t = by_test (any_of s && not (has_word s)) (next_of s).left s.dispatch.budget k is some in
    let both = both_tests (any_of s) (has_word s) t.0 in
    record {
      any = both.0;
      wordless = both.1;
      live = chosen_lives s.quantum s.flags s.dispatch both.0;
      turn = in_turn (next_of s).left s.dispatch.budget k t.1;
      budget = in_budget (next_of s).left s.dispatch.budget k t.1;
    }

module _ (m : Machine) (device : ℕ) (block : ℕ → List ℕ) (s : Setting) (w : World) (most : ℕ) (stands : StandsFor m device block s w) (ahead : IsAhead m.sched most) (some : 0 < most) where
  next_is : next_dispatch s w ≡ next_of m.sched
  next_is = rw (stands.flags, stands.dispatch, stands.quantum) refl

  not_spent : (n : ℕ) → most ≤ n → (n == 0) ≡ false
  not_spent n below = grind (arith, some, below)

  pub runs_on : is_over w ≡ false
  runs_on = rw (any_is m w true stands.flags ahead.any, stands.dispatch, not_spent m.sched.dispatch.budget ahead.budget) refl

  pub none_coming : words_coming w ≡ 0
  none_coming = no_word m device block s w stands ahead.any (not_spent m.sched.dispatch.budget ahead.budget) ahead.wordless

  pub chosen_is : (next_dispatch s w).current ≡ (next_of m.sched).current
  chosen_is = ap (λ (d : Dispatch). d.current) next_is

  pub turn_left : most ≤ (next_dispatch s w).left
  turn_left = subst (λ (d : Dispatch). most ≤ d.left) (sym next_is) ahead.turn

  pub budget_left : most ≤ w.dispatch.budget
  budget_left = subst (λ (d : Dispatch). most ≤ d.budget) (sym stands.dispatch) ahead.budget

  -- the machine behind them
  module _ (n : Machine) (left : Space) (k : ℕ) (later : StandsLater (parts_in left device block) s w k) (set : IsSetTo (parts_in left device block) s) (avail : left.services.avail ≡ m.space.services.avail)
      (names : left.names ≡ m.space.names) (tables : SameTables m.space.store left.store) (space : n.space ≡ left) (budget : n.budget ≡ m.budget) (bytes : n.console_bytes ≡ m.console_bytes) (lines : n.lines ≡ m.lines) where
    now_at : n.sched.dispatch ≡ (after s w k).dispatch → n.sched.flags ≡ m.sched.flags → n.sched.quantum ≡ m.sched.quantum → StandsFor n device block s (after s w k)
    now_at dispatch flags quantum = record {
      space = subst (λ (z : Space). Stands (parts_in z device block) (after s w k)) (sym space) later.stands;
      sound = (told_along s w stands.sound stands.told k).0;
      told = (told_along s w stands.sound stands.told k).1;
      set = subst (λ (z : Space). IsSetTo (parts_in z device block) s) (sym space) set;
      flags = later.flags ∙ (stands.flags ∙ sym flags);
      dispatch = sym dispatch;
      quantum = stands.quantum ∙ sym quantum;
      known = record { avail = stands.known.avail ∙ sym (ap (λ (z : Space). z.services.avail) space ∙ avail) };
      spells = subst (λ (z : Space). AreSpelled z.store z.names (after s w k)) (sym space)
          (spelled_by left.store m.space.names left.names (after s w k) names
          (spelled_to left.store m.space.names w (after s w k) later.texts (spelled_shape m.space.store left.store tables m.space.names w stands.spells)));
      budget = stands.budget ∙ sym budget;
      console = ap (λ (l : List ℕ). length l) (console_stays s w k later.silent) ∙ (stands.console ∙ sym bytes);
      lines = ap (λ (l : List Line). length l) (lines_stay s w k later.silent) ∙ (stands.lines ∙ sym lines);
    }

    pub some_steps : 0 < k → n.sched ≡ record m.sched { dispatch = counted_by k (next_of m.sched) } → Slices (StandsFor n device block s) true s w k
    some_steps some sched = record {
      wordless = later.wordless;
      silent = later.silent;
      stands =
          now_at (ap (λ (z : Schedule). z.dispatch) sched ∙ (ap (counted_by k) (sym next_is) ∙ sym (later.dispatch some)))
          (ap (λ (z : Schedule). z.flags) sched) (ap (λ (z : Schedule). z.quantum) sched);
    }

    -- where none is done
    pub none_done : k ≡ 0 → n.sched ≡ m.sched → Slices (StandsFor n device block s) true s w k
    none_done none sched = record {
      wordless = later.wordless;
      silent = later.silent;
      stands =
          now_at (ap (λ (z : Schedule). z.dispatch) sched ∙ (sym stands.dispatch ∙ ap (λ (j : ℕ). (after s w j).dispatch) (sym none)))
          (ap (λ (z : Schedule). z.flags) sched) (ap (λ (z : Schedule). z.quantum) sched);
    }
