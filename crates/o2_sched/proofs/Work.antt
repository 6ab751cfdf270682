-- What is left of a run falls with each word and each step: words of the script and steps of the budget.
use Rattle.std.proofs.Common.{◌≡◌, ℕ, ◌+◌, ◌<◌, ◌≤◌, ◌==◌, nat_lt, Bool, true, false, not, cond, List, [], ◌∷◌, refl, arith}
use Rattle.std.specs.List.{list_any}
use Rattle.o2_conf.specs.declared.script.Word.{Word}
use Rattle.o2_conf.specs.declared.script.Word.TheVariants.{Slice, Discard as WordDiscard}
use Rattle.o2_conf.specs.Dispatch.{Dispatch, counted, dispatched, goes_on, live_script, started}
use Rattle.o2_conf.proofs.Words.{dispatched_no_longer, script_shorter}
use Rattle.o2_sched.specs.declared.sched.Pick.TheVariants.{AllEnded, BudgetSpent, Discard}
use Rattle.o2_sched.specs.Schedule.{Schedule, behind_pick, has_word, is_step, next_of, pick_of, taken, word_or_step, work_left}

started_budget : (quantum : ℕ) (flags : List Bool) (d : Dispatch) (ws : List Word) → (started quantum flags d ws).budget ≡ d.budget
started_budget quantum flags d [] = refl
started_budget quantum flags d (Slice process count ∷ ws) = refl
started_budget quantum flags d (WordDiscard ∷ ws) = refl

either_budget : (b : Bool) (d e : Dispatch) → e.budget ≡ d.budget → (cond b d e).budget ≡ d.budget
either_budget true d e h = refl
either_budget false d e h = h

dispatched_budget : (quantum : ℕ) (flags : List Bool) (d : Dispatch) → (dispatched quantum flags d).budget ≡ d.budget
dispatched_budget quantum flags d = either_budget (goes_on flags d) d _ (started_budget quantum flags d (live_script flags d.script))

pub word_less : (s : Schedule) → has_word s ≡ true → work_left (behind_pick s Discard) < work_left s
word_less s word = let less = script_shorter s.flags s.dispatch word in omega (arith, less)

pub positive : (n : ℕ) → nat_lt 0 n ≡ true → 0 < n
positive n e = grind arith

some_budget : (a : Bool) (n : ℕ) (s : Schedule) → is_step (cond (not a) AllEnded (cond (n == 0) BudgetSpent (word_or_step s))) ≡ true → 0 < n
some_budget false n s e = absurd (cc)
some_budget true n s e = go (n == 0) refl e
  where
    some : (n : ℕ) → (n == 0) ≡ false → 0 < n
    some n e = grind arith

    go : (z : Bool) → (n == 0) ≡ z → is_step (cond z BudgetSpent (word_or_step s)) ≡ true → 0 < n
    go true is e = absurd (cc)
    go false is e = some n is

pub counted_less : (s : Schedule) → is_step (pick_of s) ≡ true → work_left (record s { dispatch = counted (next_of s) }) < work_left s
counted_less s step =
    let some = some_budget (list_any (λ (b : Bool). b) s.flags) s.dispatch.budget s step in
    let short = dispatched_no_longer s.quantum s.flags s.dispatch in
    let same : (next_of s).budget ≡ s.dispatch.budget = dispatched_budget s.quantum s.flags s.dispatch in
    omega (arith, some, short, same)

pub taken_less : (s : Schedule) (k : ℕ) → k ≤ s.dispatch.budget → work_left (record s { dispatch = taken k (next_of s) }) + k ≤ work_left s
taken_less s k few =
    let short = dispatched_no_longer s.quantum s.flags s.dispatch in
    let same : (next_of s).budget ≡ s.dispatch.budget = dispatched_budget s.quantum s.flags s.dispatch in
    omega (arith, few, short, same)
