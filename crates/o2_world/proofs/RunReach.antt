-- What is held is what the lines of the run so far tell, step by step.
use Rattle.std.proofs.Common.{◌≡◌, ℕ, ◌+◌, ◌-◌, ◌<◌, ◌==◌, ◌&&◌, ◌||◌, not, Bool, true, false, List, [], ◌∷◌, ◌++◌, if◌then◌else◌, ap, sym, ◌∙◌, refl, arith, subst}
use Rattle.std.specs.Prelude.{Some}
use Rattle.std.specs.List.{list_any}
use Rattle.o2_conf.specs.Dispatch.{Dispatch}
use Rattle.o2_world.specs.World.{World, Process, Line, Starts, HoldsBy, DropsBy, Calls, Exits, Ends, Traps, is_live}
use Rattle.o2_world.specs.Holders.{process_at}
use Rattle.o2_world.specs.Changes.{Change, Makes, Resizes, Locks, Marks, Holds, Drops, Finishes, Reserves, Frees, Names, takes, swept, with_change, with_changes}
use Rattle.o2_world.specs.Calls.{Effect}
use Rattle.o2_base.specs.Selectors.{selector_of}
use Rattle.o2_world.specs.Run.{changed, worked, all_changes}
use Rattle.o2_world.specs.Reach.{came, went, reach, tells_end, holds_at, CanTellAll, Tells, IsTold}
use Rattle.o2_world.proofs.Reached.{came_append, went_append}
use Rattle.o2_world.proofs.MapLemmas.{if_yes, if_no}
use Rattle.o2_world.proofs.StepReach.{step_told, end_told}

one_lines : (w : World) (c : Change) → (with_change w c).lines ≡ w.lines
one_lines w (Makes s) = refl
one_lines w (Resizes n size) = refl
one_lines w (Locks n count) = refl
one_lines w (Marks n d) = refl
one_lines w (Holds p i h) = refl
one_lines w (Drops p i n) = refl
one_lines w (Finishes p state) = refl
one_lines w (Reserves r) = refl
one_lines w (Frees r first) = refl
one_lines w (Names text n) = refl

all_lines : (w : World) (cs : List Change) → (with_changes w cs).lines ≡ w.lines
unfolding with_changes
all_lines w [] = refl
all_lines w (c ∷ cs) = all_lines (with_change w c) cs ∙ one_lines w c

swept_lines : (b : Bool) (w : World) → (if b then swept w else w).lines ≡ w.lines
swept_lines true w = refl
swept_lines false w = refl

-- changes put no line
pub lines_are : (w : World) (d : Dispatch) (p : Process) (e : Effect) → (changed w d p e).lines ≡ w.lines ++ e.lines
unfolding changed
lines_are w d p e = swept_lines (list_any takes (all_changes d.current e)) (with_changes (worked w d p e) (all_changes d.current e)) ∙ all_lines (worked w d p e) (all_changes d.current e)

or_step : (b x y : Bool) → (if b then true else (x || y)) ≡ ((if b then true else x) || y)
or_step true x y = refl
or_step false x y = refl

pub end_append : (xs ys : List Line) (q : ℕ) → tells_end (xs ++ ys) q ≡ (tells_end xs q || tells_end ys q)
end_append [] ys q = refl
end_append (Starts p name ∷ xs) ys q = end_append xs ys q
end_append (HoldsBy p s cause ∷ xs) ys q = end_append xs ys q
end_append (DropsBy p s cause ∷ xs) ys q = end_append xs ys q
end_append (Calls p name args error values ∷ xs) ys q = end_append xs ys q
end_append (Exits p action code ∷ xs) ys q = end_append xs ys q
end_append (Ends p code ∷ xs) ys q = ap (λ (t : Bool). if q == p then true else t) (end_append xs ys q) ∙ or_step (q == p) (tells_end xs q) (tells_end ys q)
end_append (Traps p v s o ∷ xs) ys q = ap (λ (t : Bool). if q == p then true else t) (end_append xs ys q) ∙ or_step (q == p) (tells_end xs q) (tells_end ys q)

module _ (w : World) (d : Dispatch) (p : Process) (e : Effect) (at : process_at w.processes d.current ≡ Some p) (can : CanTellAll (worked w d p e) e.changes) (tells : Tells e) (some : 0 < d.current)
    (ends : (q : ℕ) → tells_end e.lines q ≡ (not (is_live e.state) && (q == d.current))) (dead : (q i : ℕ) → tells_end w.lines q ≡ true → came e.lines q (selector_of i) ≡ 0) (told : IsTold w) where
  -- of a process that this step doesn't end
  other : (q i : ℕ) → 0 < q → tells_end e.lines q ≡ false
      → holds_at (changed w d p e) q i + went e.lines q (selector_of i) ≡ holds_at w q i + came e.lines q (selector_of i)
  other q i here none = go (is_live e.state) refl
    where
      go : (b : Bool) → is_live e.state ≡ b
          → holds_at (changed w d p e) q i + went e.lines q (selector_of i) ≡ holds_at w q i + came e.lines q (selector_of i)
      go true is = step_told w d p e at can tells is q i here
      go false is =
          let no : (q == d.current) ≡ false = sym (ap (λ (t : Bool). not t && (q == d.current)) is) ∙ sym (ends q) ∙ none in
          sym (if_no (q == d.current) _ _ no) ∙ end_told w d p e at can tells is some q i here ∙ if_no (q == d.current) _ _ no

  -- of one that it ends
  own : (q i : ℕ) → 0 < q → tells_end e.lines q ≡ true → holds_at (changed w d p e) q i ≡ 0
  own q i here it = go (is_live e.state) refl
    where
      no_true : (b : Bool) → b ≡ true → b ≡ false → ⊥
      no_true b x y = cc

      go : (b : Bool) → is_live e.state ≡ b → holds_at (changed w d p e) q i ≡ 0
      go true is = absurd (no_true _ it (ends q ∙ ap (λ (t : Bool). not t && (q == d.current)) is))
      go false is =
          let is_it : (q == d.current) ≡ true = sym (ap (λ (t : Bool). not t && (q == d.current)) is) ∙ sym (ends q) ∙ it in
          sym (if_yes (q == d.current) _ _ is_it) ∙ end_told w d p e at can tells is some q i here ∙ if_yes (q == d.current) _ _ is_it

  neither : (a b : Bool) → (a || b) ≡ false → (a ≡ false) × (b ≡ false)
  neither true b x = absurd (cc)
  neither false b x = (refl, x)

  pub told_after_step : IsTold (changed w d p e)
  told_after_step = record {
    live = λ q i here none. subst (λ (ls : List Line). holds_at (changed w d p e) q i + went ls q (selector_of i)
        ≡ came ls q (selector_of i)) (sym (lines_are w d p e))
        (live q i here (sym (end_append w.lines e.lines q) ∙ ap (λ (ls : List Line). tells_end ls q) (sym (lines_are w d p e)) ∙ none));
    ended = λ q i here it. gone q i here (tells_end e.lines q) refl (sym (end_append w.lines e.lines q) ∙ ap (λ (ls : List Line). tells_end ls q) (sym (lines_are w d p e)) ∙ it);
  }
    where
      live : (q i : ℕ) → 0 < q → (tells_end w.lines q || tells_end e.lines q) ≡ false
          → holds_at (changed w d p e) q i + went (w.lines ++ e.lines) q (selector_of i) ≡ came (w.lines ++ e.lines) q (selector_of i)
      live q i here none =
          let both = neither (tells_end w.lines q) (tells_end e.lines q) none in
          let a = other q i here both.1 in
          let b = told.live q i here both.0 in
          let c = came_append w.lines e.lines q (selector_of i) in
          let g = went_append w.lines e.lines q (selector_of i) in
          omega (arith, a, b, c, g)

      right : (a b : Bool) → b ≡ false → (a || b) ≡ true → a ≡ true
      right true b x y = refl
      right false b x y = absurd (let z : true ≡ false = sym y ∙ x in cc)

      gone : (q i : ℕ) → 0 < q → (b : Bool) → tells_end e.lines q ≡ b → (tells_end w.lines q || tells_end e.lines q) ≡ true
          → holds_at (changed w d p e) q i ≡ 0
      gone q i here true is it = own q i here is
      gone q i here false is it =
          let before = right (tells_end w.lines q) (tells_end e.lines q) is it in
          let a = other q i here is in
          let b = told.ended q i here before in
          let c = dead q i before in
          omega (arith, a, b, c)

-- what is told is the reach of the report
pub reach_is : (w : World) → IsTold w → (q i : ℕ) → 0 < q → reach w.lines q (selector_of i) ≡ holds_at w q i
reach_is w told q i here = go (tells_end w.lines q) refl
  where
    go : (b : Bool) → tells_end w.lines q ≡ b
        → (if b then 0 else came w.lines q (selector_of i) - went w.lines q (selector_of i)) ≡ holds_at w q i
    go true is = sym (told.ended q i here is)
    go false is = let a = told.live q i here is in omega (arith, a)
