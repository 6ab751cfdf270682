-- Behind a hold more, all that was held is held as often at least, and so is each run of reserved indexes.
use Rattle.std.proofs.Common.{◌≡◌, ℕ, zero, suc, ◌+◌, ◌-◌, ◌<◌, ◌==◌, ◌&&◌, ◌||◌, not, Bool, true, false, List, [], ◌∷◌, Option, Some, None, if◌then◌else◌, ap, sym, ◌∙◌, refl, arith, subst}
use Rattle.std.specs.Prelude.{slice_get}
use Rattle.std.specs.List.{list_any}
use Rattle.std.proofs.lemmas.Bool.{false≢true}
use Rattle.o2_world.specs.Map.{Map, get, put}
use Rattle.o2_world.specs.World.{World, Process, Held, Reserve}
use Rattle.o2_world.specs.Holders.{is_held, process_at}
use Rattle.o2_world.specs.Changes.{Holds, holds_run, is_used, more, own_run_held, run_held, runs_from, with_change}
use Rattle.o2_world.specs.Sound.{held_in, held_of}
use Rattle.o2_world.specs.Tied.{AreUsed, IsSwept, lives_in}
use Rattle.o2_world.specs.Moves.{IsAtLeast}
use Rattle.o2_world.proofs.Holding.{held_by}
use Rattle.o2_world.proofs.Keeps.{held_found}
use Rattle.o2_world.proofs.MapLemmas.{found_any, if_yes, if_no}
use Rattle.o2_world.proofs.Numbers.{at_place_of, changed_is, number_some}
use Rattle.o2_world.proofs.Reached.{get-put, held_at_place, held_then}

-- Who holds a run, by an index.

record RunsUnder (first : ℕ) (held : Map Held) : Type 0 where
  index : ℕ
  hold : Held
  there : get held index ≡ Some hold
  runs : runs_from first (Some hold) ≡ true

at_run : (first i : ℕ) (held : Map Held) (o : Option Held) → get held i ≡ o → runs_from first o ≡ true → RunsUnder first held
at_run first i held None at e = absurd (false≢true e)
at_run first i held (Some h) at e = record { index = i; hold = h; there = at; runs = e }

run_any : (first : ℕ) (held es : Map Held) → list_any (λ (e : ℕ × Held). runs_from first (get held e.0)) es ≡ true → RunsUnder first held
run_any first held [] e = absurd (false≢true e)
run_any first held (x ∷ es) e = go (run_any first held es) (runs_from first (get held x.0)) refl e
  where
    go : (list_any (λ (y : ℕ × Held). runs_from first (get held y.0)) es ≡ true → RunsUnder first held) → (b : Bool) → runs_from first (get held x.0) ≡ b
        → (b || list_any (λ (y : ℕ × Held). runs_from first (get held y.0)) es) ≡ true → RunsUnder first held
    go later true is f = at_run first x.0 held (get held x.0) refl is
    go later false is f = later f

run_under : (first : ℕ) (held : Map Held) → holds_run held first ≡ true → RunsUnder first held
unfolding holds_run
run_under first held e = run_any first held held e

run_found : (first i : ℕ) (held : Map Held) (h : Held) → get held i ≡ Some h → runs_from first (Some h) ≡ true → holds_run held first ≡ true
unfolding holds_run
run_found first i held h there runs = found_any (λ (j : ℕ). runs_from first (get held j)) held i h there (ap (runs_from first) there ∙ runs)

record RunsBy (first : ℕ) (ps : List Process) : Type 0 where
  place : ℕ
  index : ℕ
  hold : Held
  there : held_in ps place index ≡ Some hold
  runs : runs_from first (Some hold) ≡ true

run_by : (first : ℕ) (ps : List Process) → run_held ps first ≡ true → RunsBy first ps
run_by first [] e = absurd (false≢true e)
run_by first (p ∷ ps) e = go (run_by first ps) (holds_run p.held first) refl e
  where
    go : (run_held ps first ≡ true → RunsBy first ps) → (b : Bool) → holds_run p.held first ≡ b → (b || run_held ps first) ≡ true → RunsBy first (p ∷ ps)
    go later true is f = let u = run_under first p.held is in record { place = 0; index = u.index; hold = u.hold; there = u.there; runs = u.runs }
    go later false is f = let u = later f in record { place = suc u.place; index = u.index; hold = u.hold; there = u.there; runs = u.runs }

or_left : (a b : Bool) → a ≡ true → (a || b) ≡ true
or_left true b e = refl
or_left false b e = absurd (false≢true e)

or_right : (a b : Bool) → b ≡ true → (a || b) ≡ true
or_right true b e = refl
or_right false b e = e

pub run_found_by : (first place i : ℕ) (ps : List Process) (h : Held) → held_in ps place i ≡ Some h → runs_from first (Some h) ≡ true
    → run_held ps first ≡ true
run_found_by first place i [] h there runs = absurd (cc)
run_found_by first zero i (p ∷ ps) h there runs = or_left _ _ (run_found first i p.held h there runs)
run_found_by first (suc place) i (p ∷ ps) h there runs = or_right _ _ (run_found_by first place i ps h there runs)

-- the same of one process
record RunsOwn (first : ℕ) (o : Option Process) : Type 0 where
  index : ℕ
  hold : Held
  there : held_of o index ≡ Some hold
  runs : runs_from first (Some hold) ≡ true

own_by : (first : ℕ) (o : Option Process) → own_run_held o first ≡ true → RunsOwn first o
own_by first None e = absurd (false≢true e)
own_by first (Some p) e = let u = run_under first p.held e in record { index = u.index; hold = u.hold; there = u.there; runs = u.runs }

pub own_found : (first i : ℕ) (o : Option Process) (h : Held) → held_of o i ≡ Some h → runs_from first (Some h) ≡ true → own_run_held o first ≡ true
own_found first i None h there runs = absurd (cc)
own_found first i (Some p) h there runs = run_found first i p.held h there runs

module _ (w : World) (n i : ℕ) (x : Process) (h : Held) (at : process_at w.processes n ≡ Some x) where
  abbrev after : List Process
  after = (with_change w (Holds n i h)).processes

  some : 0 < n
  some = number_some w.processes n x at

  f : Map Held → Map Held
  f m = put i (more h (get m i)) m

  after_is : (place j : ℕ)
      → held_in after place j ≡ (if place == n - 1 then held_then (λ (m : Map Held). put i (more h (get m i)) m) (slice_get w.processes place) j else held_in w.processes place j)
  after_is place j =
      ap (λ (ps : List Process). held_in ps place j) (changed_is n (λ (p : Process). record p { held = put i (more h (get p.held i)) p.held }) w.processes some)
      ∙ held_at_place w.processes (n - 1) place j (λ (m : Map Held). put i (more h (get m i)) m)

  same_number : (a b : ℕ) → (a == b) ≡ true → a ≡ b
  same_number a b e = grind arith

  same : (a : ℕ) → (a == a) ≡ true
  same a = grind arith

  -- at the process's own place
  here : (j : ℕ) → held_in after (n - 1) j ≡ (if i == j then more h (get x.held i) else get x.held j)
  here j =
      after_is (n - 1) j
      ∙ if_yes (n - 1 == n - 1) _ _ (same (n - 1))
      ∙ ap (λ (o : Option Process). held_then (λ (m : Map Held). put i (more h (get m i)) m) o j) (at_place_of w.processes n x at)
      ∙ get-put i j (more h (get x.held i)) x.held

  -- what was held is held
  pub still : (place j : ℕ) (k : Held) → held_in w.processes place j ≡ Some k → (y : Held) × (held_in after place j ≡ Some y) × IsAtLeast k y
  still place j k e = go (place == n - 1) refl
    where
      as_it_was : IsAtLeast k k
      as_it_was = record { name = refl; rights = refl; cause = refl; first = refl; reserved = refl; holds = omega arith }

      own : place ≡ n - 1 → get x.held j ≡ Some k
      own is = sym (ap (λ (o : Option Process). held_of o j) (ap (slice_get w.processes) is ∙ at_place_of w.processes n x at)) ∙ e

      at_own : (b : Bool) → (i == j) ≡ b → get x.held j ≡ Some k
          → (y : Held) × ((if b then more h (get x.held i) else get x.held j) ≡ Some y) × IsAtLeast k y
      at_own true is there =
          (record k { holds = k.holds + h.holds }, ap (more h) (ap (get x.held) (same_number i j is) ∙ there), record { name = refl; rights = refl; cause = refl; first = refl; reserved = refl; holds = omega arith })
      at_own false is there = (k, there, as_it_was)

      go : (b : Bool) → (place == n - 1) ≡ b → (y : Held) × (held_in after place j ≡ Some y) × IsAtLeast k y
      go true is =
          let q : place ≡ n - 1 = same_number place (n - 1) is in
          let u = at_own (i == j) refl (own q) in
          (u.0, ap (λ (z : ℕ). held_in after z j) q ∙ here j ∙ u.1, u.2)
      go false is = (k, after_is place j ∙ if_no (place == n - 1) _ _ is ∙ e, as_it_was)

  pub new_held : get x.held i ≡ None → held_in after (n - 1) i ≡ Some h
  new_held free = here i ∙ if_yes (i == i) (more h (get x.held i)) (get x.held i) (same i) ∙ ap (more h) free

  still_named : (q : ℕ) → is_held w.processes q ≡ true → is_held after q ≡ true
  still_named q e =
      let u = held_by q w.processes e in
      let y = still u.place u.index u.hold u.there in
      subst (λ (z : ℕ). is_held after z ≡ true) (y.2.name ∙ u.named) (held_found after u.place u.index y.0 y.1)

  new_named : get x.held i ≡ None → is_held after h.name ≡ true
  new_named free = held_found after (n - 1) i h (new_held free)

  still_from : (first : ℕ) (k y : Held) → IsAtLeast k y → runs_from first (Some k) ≡ true → runs_from first (Some y) ≡ true
  still_from first k y least runs =
      ap (λ (f : ℕ). (f == first) && not (y.reserved == 0)) least.first ∙ ap (λ (r : ℕ). (k.first == first) && not (r == 0)) least.reserved ∙ runs

  still_runs : (first : ℕ) → run_held w.processes first ≡ true → run_held after first ≡ true
  still_runs first e =
      let u = run_by first w.processes e in
      let y = still u.place u.index u.hold u.there in
      run_found_by first u.place u.index after y.0 y.1 (still_from first u.hold y.0 y.2 u.runs)

  still_owns : (r first : ℕ) → (r == 0) ≡ false → own_run_held (process_at w.processes r) first ≡ true → own_run_held (process_at after r) first ≡ true
  still_owns r first region e =
      let u = own_by first (process_at w.processes r) e in
      let was : held_in w.processes (r - 1) u.index ≡ Some u.hold = ap (λ (o : Option Process). held_of o u.index) (sym (if_no (r == 0) None (slice_get w.processes (r - 1)) region)) ∙ u.there in
      let y = still (r - 1) u.index u.hold was in
      own_found first u.index (process_at after r) y.0 (ap (λ (o : Option Process). held_of o u.index) (if_no (r == 0) None (slice_get after (r - 1)) region) ∙ y.1) (still_from first u.hold y.0 y.2 u.runs)

  still_used : (r : Reserve) → is_used w.processes r ≡ true → is_used after r ≡ true
  still_used r e = go (r.region == 0) refl e
    where
      stays : (a b c : Bool) → (b ≡ true → c ≡ true) → (a || b) ≡ true → (a || c) ≡ true
      stays true b c g e = refl
      stays false b c g e = g e

      go : (b : Bool) → (r.region == 0) ≡ b
          → (if b then (r.stays || run_held w.processes r.first) else own_run_held (process_at w.processes r.region) r.first) ≡ true
          → is_used after r ≡ true
      go true is f = if_yes (r.region == 0) _ _ is ∙ stays r.stays _ _ (still_runs r.first) f
      go false is f = if_no (r.region == 0) _ _ is ∙ still_owns r.region r.first is f

  all_used : (rs : List Reserve) → AreUsed w.processes rs → AreUsed after rs
  all_used [] u = tt
  all_used (r ∷ rs) u = (still_used r u.0, all_used rs u.1)

  -- where all that lives is held, or is what is held now at an index that was free
  pub holds_swept : get x.held i ≡ None → ((q : ℕ) → lives_in w q ≡ true → (q ≡ h.name → ⊥) → is_held w.processes q ≡ true)
      → AreUsed w.processes w.reserved → IsSwept (with_change w (Holds n i h))
  holds_swept free named used = record { named = λ q lives. go q (q == h.name) refl lives; used = all_used w.reserved used }
    where
      not_same : (q : ℕ) → (q == h.name) ≡ false → q ≡ h.name → ⊥
      not_same q e f = grind arith

      go : (q : ℕ) (b : Bool) → (q == h.name) ≡ b → lives_in w q ≡ true → is_held after q ≡ true
      go q true is lives = subst (λ (z : ℕ). is_held after z ≡ true) (sym (same_number q h.name is)) (new_named free)
      go q false is lives = still_named q (named q lives (not_same q is))

  -- where all that lives is held
  pub kept_swept : IsSwept w → IsSwept (with_change w (Holds n i h))
  kept_swept swept = record { named = λ q lives. still_named q (swept.named q lives); used = all_used w.reserved swept.used }
