-- What a call leaves is what a step with this effect leaves, but for dispatch and lines; and a call with its arguments is the one that
-- reads them from the stack.
use Rattle.std.proofs.Common.{◌≡◌, ℕ, zero, suc, ◌-◌, ◌<◌, ◌≤◌, ◌⊎◌, inl, inr, Bool, true, false, List, [], ◌∷◌, refl, ap, sym, ◌∙◌, arith}
use Rattle.std.specs.Prelude.{if◌then◌else◌, Option, Some, None, ◌==◌, slice_index}
use Rattle.std.specs.List.{list_any}
use Rattle.std.proofs.lemmas.Bool.{cases_lt}
use mathlib.Core.Path.{fun_ext}
use Rattle.o2_conf.specs.Dispatch.{Dispatch}
use Rattle.o2_world.specs.World.{World, Line, Process}
use Rattle.o2_world.specs.Map.{get}
use Rattle.o2_world.specs.Changes.{Change, Makes, Resizes, Locks, Marks, Holds, Drops, Finishes, Reserves, Frees, Names, takes, swept, with_all, with_change, with_changes}
use Rattle.o2_world.specs.CallParts.{Before, Effect, argument, has_arguments}
use Rattle.o2_world.specs.Calls.{row_of, rows, served_by, serviced}
use Rattle.o2_world.specs.Outcomes.{CallRow, served, worded}
use Rattle.o2_world.specs.Run.{changed, worked, all_changes}
use Rattle.o2_world.specs.Slots.{words_in}
use Rattle.o2_boundless.specs.Shown.{Shown}
use Rattle.o2_world_parts.specs.Layouts.{from_top}
use Rattle.o2_boundless.specs.Called.{behind_effect, with_row, worded_by, words_by}

-- a world with this dispatch and these lines
told_with : Dispatch → List Line → World → World
told_with d ls w = record w { dispatch = d; lines = ls }

one_keeps : (d : Dispatch) (ls : List Line) (w : World) (c : Change) → with_change (told_with d ls w) c ≡ told_with d ls (with_change w c)
unfolding told_with
one_keeps d ls w (Makes s) = refl
one_keeps d ls w (Resizes n size) = refl
one_keeps d ls w (Locks n count) = refl
one_keeps d ls w (Marks n discarded) = refl
one_keeps d ls w (Holds p i h) = refl
one_keeps d ls w (Drops p i count) = refl
one_keeps d ls w (Finishes p state) = refl
one_keeps d ls w (Reserves r) = refl
one_keeps d ls w (Frees region first) = refl
one_keeps d ls w (Names text name) = refl

changes_keep : (d : Dispatch) (ls : List Line) (w : World) (cs : List Change) → with_changes (told_with d ls w) cs ≡ told_with d ls (with_changes w cs)
unfolding with_changes
changes_keep d ls w [] = refl
changes_keep d ls w (c ∷ cs) = ap (λ v. with_changes v cs) (one_keeps d ls w c) ∙ changes_keep d ls (with_change w c) cs

swept_by : Bool → World → World
swept_by b w = if b then swept w else w

swept_keeps : (d : Dispatch) (ls : List Line) (b : Bool) (w : World) → swept_by b (told_with d ls w) ≡ told_with d ls (swept_by b w)
unfolding told_with swept_by
swept_keeps d ls true w = refl
swept_keeps d ls false w = refl

all_keep : (d : Dispatch) (ls : List Line) (w : World) (cs : List Change) → with_all (told_with d ls w) cs ≡ told_with d ls (with_all w cs)
unfolding swept_by
all_keep d ls w cs = ap (swept_by (list_any takes cs)) (changes_keep d ls w cs) ∙ swept_keeps d ls (list_any takes cs) (with_changes w cs)

pub call_is_step : (v : Shown) (n : ℕ) (p : Process) (e : Effect)
    → (behind_effect v n p e).world ≡ record (changed v.world (record v.world.dispatch { current = n }) p e) { dispatch = v.world.dispatch; lines = [] }
unfolding told_with changed
call_is_step v n p e = all_keep v.world.dispatch [] (worked v.world (record v.world.dispatch { current = n }) p e) (all_changes n e)

-- The words of a call from the top of the stack.

-- so many words, and 0 past them
abbrev pub first : (words : ℕ) → (ℕ → ℕ) → ℕ → ℕ
first zero a i = 0
first (suc n) a zero = a zero
first (suc n) a (suc i) = first n (λ j. a (suc j)) i

top_at : (words : ℕ) (args : List ℕ) (i : ℕ) → i < words → slice_index (from_top words args) i ≡ slice_index args (words - 1 - i)
top_at zero args i h = absurd (omega (arith, h))
top_at (suc n) args zero h = let e : suc n - 1 - 0 ≡ n = omega arith in ap (slice_index args) (sym e)
top_at (suc n) args (suc i) h = top_at n args i (omega (arith, h)) ∙ (let e : n - 1 - i ≡ suc n - 1 - suc i = omega arith in ap (slice_index args) e)

top_past : (words : ℕ) (args : List ℕ) (i : ℕ) → words ≤ i → slice_index (from_top words args) i ≡ 0
top_past zero args i h = refl
top_past (suc n) args zero h = absurd (omega (arith, h))
top_past (suc n) args (suc i) h = top_past n args i (omega (arith, h))

first_at : (words : ℕ) (a : ℕ → ℕ) (i : ℕ) → i < words → first words a i ≡ a i
first_at zero a i h = absurd (omega (arith, h))
first_at (suc n) a zero h = refl
first_at (suc n) a (suc i) h = first_at n (λ j. a (suc j)) i (omega (arith, h))

first_past : (words : ℕ) (a : ℕ → ℕ) (i : ℕ) → words ≤ i → first words a i ≡ 0
first_past zero a i h = refl
first_past (suc n) a zero h = absurd (omega (arith, h))
first_past (suc n) a (suc i) h = first_past n (λ j. a (suc j)) i (omega (arith, h))

-- arguments that lie on the stack, the last one at its top
top_is : (words : ℕ) (args : List ℕ) (a : ℕ → ℕ) → ((i : ℕ) → i < words → slice_index args i ≡ a (words - 1 - i)) → slice_index (from_top words args) ≡ first words a
top_is words args a e = fun_ext (λ i. by_place i (cases_lt i words))
  where
    by_place : (i : ℕ) → (i < words) ⊎ (words ≤ i) → slice_index (from_top words args) i ≡ first words a i
    by_place i (inl h) =
        let back : words - 1 - (words - 1 - i) ≡ i = omega (arith, h) in
        top_at words args i h ∙ (e (words - 1 - i) (omega (arith, h)) ∙ (ap a back ∙ sym (first_at words a i h)))
    by_place i (inr h) = top_past words args i h ∙ sym (first_past words a i h)

-- a row goes by its words alone
abbrev GoesByWords : ℕ × CallRow → Type 0
GoesByWords e = (b : Before) (next : ℕ) (a : ℕ → ℕ) → worded e.1 b next (first (words_in e.1.slots) a) ≡ worded e.1 b next a

abbrev AllGo : List (ℕ × CallRow) → Type 0
AllGo [] = Unit {0}
AllGo (e ∷ es) = GoesByWords e × AllGo es

abbrev GoesBy : Option CallRow → Type 0
GoesBy r = (b : Before) (next : ℕ) (a : ℕ → ℕ) → worded_by r b next (first (words_by r) a) ≡ worded_by r b next a

picked : (t : Bool) (r : CallRow) (s : Option CallRow) → GoesBy (Some r) → GoesBy s → GoesBy (if t then Some r else s)
picked true r s g h = g
picked false r s g h = h

all_go : (es : List (ℕ × CallRow)) → AllGo es → (service : ℕ) → GoesBy (get es service)
all_go [] g service = λ b next a. refl
all_go ((k, r) ∷ es) g service = picked (k == service) r (get es service) g.0 (all_go es g.1 service)

rows_go : AllGo rows
rows_go = (
  (λ b next a. refl),
  (
    (λ b next a. refl),
    (
      (λ b next a. refl),
      (
        (λ b next a. refl),
        (
          (λ b next a. refl),
          (
            (λ b next a. refl),
            (
              (λ b next a. refl),
              (
                (λ b next a. refl),
                (
                  (λ b next a. refl),
                  (
                    (λ b next a. refl),
                    (
                      (λ b next a. refl),
                      (
                        (λ b next a. refl),
                        (
                          (λ b next a. refl),
                          (
                            (λ b next a. refl),
                            (
                              (λ b next a. refl),
                              (
                                (λ b next a. refl),
                                (
                                  (λ b next a. refl),
                                  (
                                    (λ b next a. refl),
                                    (
                                      (λ b next a. refl),
                                      (
                                        (λ b next a. refl),
                                        (
                                          (λ b next a. refl),
                                          (
                                            (λ b next a. refl),
                                            (
                                              (λ b next a. refl),
                                              (
                                                (λ b next a. refl),
                                                (
                                                  (λ b next a. refl),
                                                  ((λ b next a. refl), tt),
                                                ),
                                              ),
                                            ),
                                          ),
                                        ),
                                      ),
                                    ),
                                  ),
                                ),
                              ),
                            ),
                          ),
                        ),
                      ),
                    ),
                  ),
                ),
              ),
            ),
          ),
        ),
      ),
    ),
  ),
)

by_words : (service : ℕ) → GoesBy (row_of service)
unfolding row_of
by_words service = all_go rows rows_go service

served_is : (r : Option CallRow) (b : Before) (next : ℕ) → has_arguments b.view b.cpu (words_by r) ≡ true → worded_by r b next (argument b.view b.cpu) ≡ served_by r b next
unfolding served
served_is None b next h = refl
served_is (Some r) b next h = rw h refl

pub row_is_serviced : (service : ℕ) (b : Before) (next : ℕ) (args : List ℕ) → has_arguments b.view b.cpu (words_by (row_of service)) ≡ true
    → ((i : ℕ) → i < words_by (row_of service) → slice_index args i ≡ argument b.view b.cpu (words_by (row_of service) - 1 - i)) → with_row (row_of service) b next args ≡ serviced b service next
row_is_serviced service b next args h e =
    ap (worded_by (row_of service) b next) (top_is (words_by (row_of service)) args (argument b.view b.cpu) e)
    ∙ (by_words service b next (argument b.view b.cpu) ∙ served_is (row_of service) b next h)
