-- A run has no more steps than its budget.
use Rattle.std.proofs.Common.{◌≡◌, ℕ, zero, suc, ◌+◌, ◌-◌, ◌<◌, ◌≤◌, Bool, true, false, not, ◌||◌, ◌==◌, nat_lt, ◌&&◌, if◌then◌else◌, List, [], ◌∷◌, Option, Some, ap, sym, ◌∙◌, refl, arith, subst, below_more}
use Rattle.o2_conf.specs.declared.script.Word.{Word}
use Rattle.o2_conf.specs.declared.script.Word.TheVariants.{Slice, Discard}
use Rattle.o2_world.specs.World.{World, Setting, Process}
use Rattle.o2_conf.specs.Dispatch.{Dispatch, dispatched, started, live_script, lives}
use Rattle.o2_world.specs.Effect.{effect}
use Rattle.o2_world.specs.Run.{all_changes, before, changed, worked, acted, step, chosen_step, after, is_over, any_lives, live_flags, next_dispatch, ready, steps_done, IsLast}
pub use Rattle.o2_world.proofs.Words.{step_runs}
use Rattle.o2_world.proofs.Words.{ready_stays}
use Rattle.o2_conf.proofs.Choice.{chosen_lives}
use Rattle.o2_world.specs.Calls.{Effect}
use Rattle.o2_world.proofs.OwnChanges.{all_dispatch}
use Rattle.o2_world.proofs.Flags.{live_process}

started_budget : (quantum : ℕ) (flags : List Bool) (d : Dispatch) (words : List Word) → (started quantum flags d words).budget ≡ d.budget
started_budget quantum flags d [] = refl
started_budget quantum flags d (Slice process count ∷ words) = refl
started_budget quantum flags d (Discard ∷ words) = refl

either_budget : (b : Bool) (d e : Dispatch) → e.budget ≡ d.budget → (if b then d else e).budget ≡ d.budget
either_budget true d e h = refl
either_budget false d e h = h

dispatched_budget : (quantum : ℕ) (flags : List Bool) (d : Dispatch) → (dispatched quantum flags d).budget ≡ d.budget
dispatched_budget quantum flags d = either_budget (nat_lt 0 d.left && lives flags d.current) d _ (started_budget quantum flags d (live_script flags d.script))

not_both : (b : Bool) → b ≡ true → b ≡ false → ⊥
not_both b e f = cc

pub not_over : (b : Bool) (n : ℕ) → (not b || (n == 0)) ≡ false → (b ≡ true) × (0 < n)
not_over true n e = (refl, grind arith)
not_over false n e = absurd (cc)

acted_budget : (s : Setting) (w : World) (d : Dispatch) (p : Process) → 0 < d.budget → (acted s w d (Some p)).dispatch.budget + 1 ≡ d.budget
unfolding changed
acted_budget s w d p h =
    let e : Effect = effect (before s w d.current p) in
    let same : (acted s w d (Some p)).dispatch.budget ≡ d.budget - 1 = ap (λ (x : Dispatch). x.budget) (all_dispatch (worked w d p e) (all_changes d.current e)) in
    omega (arith, same, h)

chosen_budget : (s : Setting) (w : World) → is_over w ≡ false → (chosen_step s w).dispatch.budget + 1 ≡ w.dispatch.budget
chosen_budget s w e =
    let runs = not_over (any_lives w.processes) w.dispatch.budget e in
    let d : Dispatch = next_dispatch s w in
    let same : d.budget ≡ w.dispatch.budget = dispatched_budget s.quantum (live_flags w.processes) w.dispatch in
    let lives_here : lives (live_flags w.processes) d.current ≡ true = chosen_lives s.quantum (live_flags w.processes) w.dispatch runs.0 in
    let here = live_process w.processes (live_flags w.processes) d.current refl lives_here in
    let P : Option Process → Type 0 = λ o. (acted s w d o).dispatch.budget + 1 ≡ w.dispatch.budget in
    subst P (sym here.1) (acted_budget s w d here.0 (omega (arith, same, runs.1)) ∙ same)

step_budget : (s : Setting) (w : World) → is_over w ≡ false → (step s w).dispatch.budget + 1 ≡ w.dispatch.budget
step_budget s w e =
    let behind = ready_stays w in
    ap (λ (v : World). v.dispatch.budget + 1) (step_runs s w e) ∙ (chosen_budget s (ready w) (behind.over ∙ e) ∙ behind.budget)

pub budget_after : (s : Setting) (w : World) (k : ℕ) → ((j : ℕ) → j < k → is_over (after s w j) ≡ false)
    → (after s w k).dispatch.budget + k ≡ w.dispatch.budget
budget_after s w zero runs = omega arith
budget_after s w (suc k) runs =
    let before = budget_after s w k (λ j h. runs j (omega (arith, h))) in
    let one = step_budget s (after s w k) (runs k (omega arith)) in
    omega (arith, before, one)

-- the budget lost is the number of steps
pub steps_counted : (s : Setting) (w : World) (k : ℕ) → w.dispatch.budget ≡ s.budget → ((j : ℕ) → j < k → is_over (after s w j) ≡ false)
    → steps_done s (after s w k) ≡ k
steps_counted s w k whole runs = let h = budget_after s w k runs in omega (arith, h, whole)

-- the last step is not past the budget
pub last_within : (s : Setting) (w : World) (k : ℕ) → IsLast s w k → k ≤ w.dispatch.budget
last_within s w k last = let h = budget_after s w k last.first in omega (arith, h)

no_budget : (b : Bool) (n : ℕ) → n ≡ 0 → (not b || (n == 0)) ≡ true
no_budget true n e = grind arith
no_budget false n e = refl

-- from step j on, with at most n steps of budget left
search_last : (s : Setting) (w : World) (n j : ℕ) (b : Bool) → is_over (after s w j) ≡ b → ((i : ℕ) → i < j → is_over (after s w i) ≡ false)
    → (after s w j).dispatch.budget ≤ n → (k : ℕ) × IsLast s w k
search_last s w n j true is before small = (j, record { over = is; first = before })
search_last s w zero j false is before small =
    absurd (let all : is_over (after s w j) ≡ true = no_budget (any_lives (after s w j).processes) (after s w j).dispatch.budget (omega (arith, small)) in not_both _ all is)
search_last s w (suc n) j false is before small =
    let one = step_budget s (after s w j) is in
    let P : ℕ → Type 0 = λ i. is_over (after s w i) ≡ false in
    search_last s w n (suc j) (is_over (after s w (suc j))) refl (λ i h. below_more P j before is i (omega (arith, h))) (omega (arith, one, small))

-- some step is the last
pub has_last : (s : Setting) (w : World) → (k : ℕ) × IsLast s w k
has_last s w = search_last s w w.dispatch.budget 0 (is_over w) refl (λ i h. absurd (omega (arith, h))) (omega arith)
