-- What each step leaves as it is: other processes, and what is reserved for the whole run.
use Rattle.std.proofs.Common.{◌≡◌, ◌≢◌, ℕ, ◌+◌, ◌==◌, ◌&&◌, ◌||◌, Bool, true, false, cond, List, [], ◌∷◌, if◌then◌else◌, ap, sym, ◌∙◌, refl, subst, Option, Some, None}
use Rattle.std.specs.Prelude.{slice_get}
use Rattle.std.specs.List.{list_any}
use Rattle.o2_conf.specs.Dispatch.{Dispatch}
use Rattle.o2_world.specs.World.{World, Setting, Process, Reserve}
use Rattle.o2_world.specs.Changes.{is_used, swept, takes, used, with_changes}
use Rattle.o2_world.specs.Known.{is_for_the_run}
use Rattle.o2_world.specs.Calls.{Effect}
use Rattle.o2_world.specs.Effect.{effect}
use Rattle.o2_world.specs.Holders.{process_at}
use Rattle.o2_world.specs.Run.{all_changes, before, changed, worked, acted, step, chosen_step, is_over, next_dispatch, ready}
use Rattle.o2_world.specs.Giving.{GivesNothing, gives}
use Rattle.o2_world.specs.Moves.{AreSpared}
use Rattle.o2_world.proofs.Keeps.{other_number}
use Rattle.o2_world.proofs.OwnChanges.{all_leave, all_other, all_reserves, changes_reserved}
use Rattle.o2_world.proofs.Sparing.{changed_spared, moves_reserve, moves_spare, same_spared, spare_place}
use Rattle.o2_world.proofs.StepMoves.{effect_moves}
use Rattle.o2_world.proofs.Words.{next_ready, ready_stays}

-- Other processes.

acted_spared : (s : Setting) (w : World) (d : Dispatch) (o : Option Process) (place : ℕ) → place + 1 ≢ d.current
    → AreSpared (slice_get w.processes place) (slice_get (acted s w d o).processes place)
acted_spared s w d None place other = same_spared (slice_get w.processes place) (slice_get w.processes place) refl
acted_spared s w d (Some p) place other =
    let b = before s w d.current p in
    changed_spared w d p (effect b) (moves_spare b (effect b).cpu (effect b).changes (effect_moves b)) place other

-- what another process is and holds stays, but that it may hold more
pub step_spared : (s : Setting) (w : World) (place : ℕ) → place + 1 ≢ (next_dispatch s w).current
    → AreSpared (slice_get w.processes place) (slice_get (step s w).processes place)
unfolding step
step_spared s w place other = go (is_over w)
  where
    v : World
    v = ready w

    go : (b : Bool) → AreSpared (slice_get w.processes place) (slice_get (if b then w else chosen_step s v).processes place)
    go true = same_spared (slice_get w.processes place) (slice_get w.processes place) refl
    go false =
        subst (λ (ps : List Process). AreSpared (slice_get ps place) (slice_get (chosen_step s v).processes place)) (ready_stays w).processes
        (acted_spared s v (next_dispatch s v) (process_at v.processes (next_dispatch s v).current) place
        (subst (λ (d : Dispatch). place + 1 ≢ d.current) (sym (next_ready s w)) other))

acted_other : (s : Setting) (w : World) (d : Dispatch) (o : Option Process) (place : ℕ) → place + 1 ≢ d.current
    → ((p : Process) → o ≡ Some p → list_any (gives (place + 1)) (effect (before s w d.current p)).changes ≡ false)
    → slice_get (acted s w d o).processes place ≡ slice_get w.processes place
unfolding changed
acted_other s w d None place other none = refl
acted_other s w d (Some p) place other none =
    let b = before s w d.current p in
    let e : Effect = effect b in
    all_other (worked w d p e) (all_changes d.current e) place
    (all_leave place d.current e (spare_place d.current place e.changes other (moves_spare b e.cpu e.changes (effect_moves b)) (none p refl)) other)
    ∙ other_number w.processes d.current _ place other

-- one to which the step gives nothing is as it was
pub step_other : (s : Setting) (w : World) (place : ℕ) → place + 1 ≢ (next_dispatch s w).current → GivesNothing s w (place + 1)
    → slice_get (step s w).processes place ≡ slice_get w.processes place
unfolding step
step_other s w place other none = go (is_over w)
  where
    v : World
    v = ready w

    gives_none : (d : Dispatch) → d ≡ next_dispatch s w → (p : Process) → process_at v.processes d.current ≡ Some p
        → list_any (gives (place + 1)) (effect (before s v d.current p)).changes ≡ false
    gives_none d same p at =
        subst (λ (d : Dispatch). list_any (gives (place + 1)) (effect (before s v d.current p)).changes ≡ false) (sym same)
        (none p (ap (λ (ps : List Process). process_at ps (next_dispatch s w).current) (sym (ready_stays w).processes) ∙ (ap (λ (d : Dispatch). process_at v.processes d.current) (sym same) ∙ at)))

    go : (b : Bool) → slice_get (if b then w else chosen_step s v).processes place ≡ slice_get w.processes place
    go true = refl
    go false =
        acted_other s v (next_dispatch s v) (process_at v.processes (next_dispatch s v).current) place
        (subst (λ (d : Dispatch). place + 1 ≢ d.current) (sym (next_ready s w)) other) (gives_none (next_dispatch s v) (next_ready s w))
        ∙ ap (λ (ps : List Process). slice_get ps place) (ready_stays w).processes

-- What is reserved for the whole run.

either_by : (z s x y : Bool) (own : Bool) → (s && (z && x)) ≡ true → (if z then (s || y) else own) ≡ true
either_by true true x y own e = refl
either_by true false x y own e = absurd (cc)
either_by false true x y own e = absurd (cc)
either_by false false x y own e = absurd (cc)

stays_used : (ps : List Process) (i : ℕ) (r : Reserve) → is_for_the_run i r ≡ true → is_used ps r ≡ true
stays_used ps i r e = either_by (r.region == 0) r.stays _ _ _ e

one_used : (ps : List Process) (i : ℕ) (r : Reserve) (rest old : List Reserve) (b : Bool) → is_used ps r ≡ b
    → (is_for_the_run i r || list_any (is_for_the_run i) old) ≡ true
    → (list_any (is_for_the_run i) old ≡ true → list_any (is_for_the_run i) rest ≡ true) → list_any (is_for_the_run i) (cond b (r ∷ rest) rest) ≡ true
one_used ps i r rest old b is any below = go (is_for_the_run i r) refl any b is
  where
    go : (t : Bool) → is_for_the_run i r ≡ t → (t || list_any (is_for_the_run i) old) ≡ true → (b : Bool) → is_used ps r ≡ b
        → list_any (is_for_the_run i) (cond b (r ∷ rest) rest) ≡ true
    go true it any true is = ap (λ (t : Bool). t || list_any (is_for_the_run i) rest) it
    go true it any false is = absurd (let no : true ≡ false = sym (stays_used ps i r it) ∙ is in cc)
    go false it any true is = ap (λ (t : Bool). t || list_any (is_for_the_run i) rest) it ∙ below any
    go false it any false is = below any

any_used : (ps : List Process) (i : ℕ) (rs : List Reserve) → list_any (is_for_the_run i) rs ≡ true
    → list_any (is_for_the_run i) (used ps rs) ≡ true
any_used ps i [] e = e
any_used ps i (r ∷ rs) e = one_used ps i r (used ps rs) rs (is_used ps r) refl e (any_used ps i rs)

by_sweep : (w : World) (i : ℕ) (b : Bool) → list_any (is_for_the_run i) w.reserved ≡ true
    → list_any (is_for_the_run i) (if b then swept w else w).reserved ≡ true
by_sweep w i true e = any_used w.processes i w.reserved e
by_sweep w i false e = e

-- what a step of process n changes, with the end of the process behind it, frees no reserved index
pub step_reserved : (s : Setting) (w : World) (d : Dispatch) (n : ℕ) (p : Process) (P : Reserve → Bool) → list_any P w.reserved ≡ true
    → let e = effect (before s w n p) in list_any P (with_changes (worked w d p e) (all_changes n e)).reserved ≡ true
step_reserved s w d n p P some =
    let b = before s w n p in
    changes_reserved P (worked w d p (effect b)) (all_changes n (effect b)) (all_reserves n (effect b) (moves_reserve b (effect b).cpu (effect b).changes (effect_moves b))) some

acted_stays : (s : Setting) (w : World) (d : Dispatch) (o : Option Process) (i : ℕ) → list_any (is_for_the_run i) w.reserved ≡ true
    → list_any (is_for_the_run i) (acted s w d o).reserved ≡ true
unfolding changed
acted_stays s w d None i e = e
acted_stays s w d (Some p) i e =
    let f : Effect = effect (before s w d.current p) in
    let v : World = with_changes (worked w d p f) (all_changes d.current f) in
    by_sweep v i (list_any takes (all_changes d.current f))
    (step_reserved s w d d.current p (is_for_the_run i) e)

pub step_stays : (s : Setting) (w : World) (i : ℕ) → list_any (is_for_the_run i) w.reserved ≡ true
    → list_any (is_for_the_run i) (step s w).reserved ≡ true
unfolding step
step_stays s w i e = go (is_over w)
  where
    go : (b : Bool) → list_any (is_for_the_run i) (if b then w else chosen_step s (ready w)).reserved ≡ true
    go true = e
    go false =
        let v = ready w in
        acted_stays s v (next_dispatch s v) (process_at v.processes (next_dispatch s v).current) i
        (ap (λ (rs : List Reserve). list_any (is_for_the_run i) rs) (ready_stays w).reserved ∙ e)
