-- Who holds a name behind a write of one process.
use Rattle.std.proofs.Common.{◌≡◌, ◌≢◌, ℕ, zero, suc, ◌+◌, ◌-◌, ◌<◌, Bool, true, false, List, [], ◌∷◌, Option, Some, None, ap, sym, ◌∙◌, refl, arith, if◌then◌else◌, ◌||◌, ◌==◌, slice_set, subst}
use Rattle.std.specs.Prelude.{is_some, slice_get, option_map}
use Rattle.o2_world.specs.Map.{Map, get}
use Rattle.o2_world.specs.World.{World, Setting, Process, Segment, Held}
use Rattle.o2_world.specs.Holders.{names_it, holds_name, is_held, process_at, with_process}
use Rattle.o2_world.specs.Views.{with_bytes}
use Rattle.o2_world.specs.Run.{step, chosen_step, is_over, ready}
use Rattle.o2_world.specs.Sound.{held_in}
use Rattle.o2_world.proofs.MapLemmas.{get-map, found_any, if_yes}
use Rattle.o2_world.proofs.Numbers.{number_some, at_place_of, with_is}

is_some-map : {X : Type 0} (f : X → X) (o : Option X) → is_some (option_map f o) ≡ is_some o
is_some-map f None = refl
is_some-map f (Some x) = refl

-- other bytes change no name's being there
pub bytes_there : (segments : Map Segment) (bytes : ℕ → List ℕ) (q : ℕ)
    → is_some (get (with_bytes segments bytes) q) ≡ is_some (get segments q)
bytes_there segments bytes q =
    ap is_some (get-map (λ (n : ℕ) (s : Segment). record s { bytes = bytes n }) segments q) ∙ is_some-map _ (get segments q)

pub some_is : {X : Type 0} (x y : X) (o : Option X) → o ≡ Some x → o ≡ Some y → x ≡ y
some_is x y o e f = cc

-- a write at one place of the processes
pub at_other : {X : Type 0} (xs : List X) (i j : ℕ) (x : X) → j ≢ i → slice_get (slice_set xs i x) j ≡ slice_get xs j
at_other [] i j x h = refl
at_other (a ∷ xs) zero zero x h = absurd (h refl)
at_other (a ∷ xs) zero (suc j) x h = refl
at_other (a ∷ xs) (suc i) zero x h = refl
at_other (a ∷ xs) (suc i) (suc j) x h = at_other xs i j x (λ e. h (ap suc e))

or_left : (a b : Bool) → a ≡ true → (a || b) ≡ true
or_left true b e = refl
or_left false b e = absurd (cc)

or_right : (a b : Bool) → b ≡ true → (a || b) ≡ true
or_right true b e = refl
or_right false b e = e

same_name : (n : ℕ) → (n == n) ≡ true
same_name n = grind arith

pub holds_found : (held : Map Held) (i : ℕ) (h : Held) → get held i ≡ Some h → holds_name held h.name ≡ true
unfolding holds_name
holds_found held i h e = found_any (λ j. names_it h.name (get held j)) held i h e (ap (names_it h.name) e ∙ same_name h.name)

pub held_found : (ps : List Process) (place i : ℕ) (h : Held) → held_in ps place i ≡ Some h → is_held ps h.name ≡ true
held_found [] place i h e = absurd (cc)
held_found (p ∷ ps) zero i h e = or_left _ _ (holds_found p.held i h e)
held_found (p ∷ ps) (suc place) i h e = or_right _ _ (held_found ps place i h e)

pub held_same : (ps : List Process) (k : ℕ) (p new : Process) (q : ℕ) → slice_get ps k ≡ Some p → new.held ≡ p.held
    → is_held (slice_set ps k new) q ≡ is_held ps q
held_same [] k p new q at same = refl
held_same (a ∷ ps) zero p new q at same = ap (λ (x : Map Held). holds_name x q || is_held ps q) (same ∙ ap (λ (x : Process). x.held) (sym (some_is a p (Some a) refl at)))
held_same (a ∷ ps) (suc k) p new q at same = ap (λ b. holds_name a.held q || b) (held_same ps k p new q at same)

-- what holds of each process holds after a write of one of which it holds
pub each_after : {P : Process → Type 0} (ps : List Process) (k : ℕ) (new : Process) → P new
    → ((place : ℕ) (x : Process) → slice_get ps place ≡ Some x → P x)
    → (place : ℕ) (x : Process) → slice_get (slice_set ps k new) place ≡ Some x → P x
each_after [] k new one old place x e = old place x e
each_after {P} (a ∷ ps) zero new one old zero x e = subst P (some_is new x (Some new) refl e) one
each_after (a ∷ ps) zero new one old (suc place) x e = old (suc place) x e
each_after (a ∷ ps) (suc k) new one old zero x e = old zero x e
each_after {P} (a ∷ ps) (suc k) new one old (suc place) x e = each_after {P = P} ps k new one (λ i. old (suc i)) place x e

-- the same by numbers
pub held_same_at : (ps : List Process) (n : ℕ) (p new : Process) (q : ℕ) → process_at ps n ≡ Some p → new.held ≡ p.held
    → is_held (with_process ps n new) q ≡ is_held ps q
held_same_at ps n p new q at same =
    ap (λ (qs : List Process). is_held qs q) (with_is ps n new (number_some ps n p at)) ∙ held_same ps (n - 1) p new q (at_place_of ps n p at) same

pub each_at : {P : Process → Type 0} (ps : List Process) (n : ℕ) (new : Process) → P new
    → ((place : ℕ) (x : Process) → slice_get ps place ≡ Some x → P x)
    → (place : ℕ) (x : Process) → slice_get (with_process ps n new) place ≡ Some x → P x
each_at {P} ps n new one old place x = go (n == 0)
  where
    go : (b : Bool) → slice_get (if b then ps else slice_set ps (n - 1) new) place ≡ Some x → P x
    go true e = old place x e
    go false e = each_after {P = P} ps (n - 1) new one old place x e

pub other_number : (ps : List Process) (n : ℕ) (x : Process) (place : ℕ) → place + 1 ≢ n
    → slice_get (with_process ps n x) place ≡ slice_get ps place
other_number ps n x place other = go (n == 0) refl
  where
    past : (n == 0) ≡ false → place ≢ n - 1
    past is same = other (let some : 0 < n = grind arith in omega (arith, some, same))

    go : (b : Bool) → (n == 0) ≡ b → slice_get (if b then ps else slice_set ps (n - 1) x) place ≡ slice_get ps place
    go true is = refl
    go false is = at_other ps (n - 1) place x (past is)

-- a run that is over stays as it is
pub over_stays : (s : Setting) (w : World) → is_over w ≡ true → step s w ≡ w
unfolding step
over_stays s w over = if_yes (is_over w) w (chosen_step s (ready w)) over
