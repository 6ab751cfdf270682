-- A step of a process that goes on changes what is held by as much as its lines tell; one that ends it leaves it nothing.
use Rattle.std.proofs.Common.{◌≡◌, ℕ, zero, suc, ◌+◌, ◌-◌, ◌<◌, ◌==◌, Bool, true, false, List, [], ◌∷◌, ◌++◌, Option, Some, None, if◌then◌else◌, ap, sym, ◌∙◌, refl, arith, slice_set}
use Rattle.std.specs.Prelude.{slice_get, option_map}
use Rattle.std.specs.List.{list_any}
use Rattle.o2_conf.specs.Dispatch.{Dispatch}
use Rattle.o2_world.specs.Map.{Map}
use Rattle.o2_world.specs.World.{World, Process, Held, is_live}
use Rattle.o2_world.specs.Changes.{Change, Finishes, with_change, with_changes, with_all, takes}
use Rattle.o2_world.specs.Calls.{Effect}
use Rattle.o2_world.specs.Holders.{process_at, with_process}
use Rattle.o2_world.specs.Sound.{held_of, held_in}
use Rattle.o2_base.specs.Selectors.{selector_of}
use Rattle.o2_world.specs.Run.{changed, working, worked, all_changes}
use Rattle.o2_world.specs.Reach.{came, went, holds_of, holds_at, CanTellAll, Tells}
use Rattle.o2_world.proofs.Numbers.{number_some, at_place_of, process_is, with_is, changed_is}
use Rattle.o2_world.proofs.Reached.{place_holds, number_holds, set-place, changes_told, moved_came, moved_went, all_told, get-place, number_is, swept_holds}
use Rattle.o2_world.proofs.MapLemmas.{if_yes, if_no}

-- registers and state change nothing that is held
pub same_map : (ps : List Process) (k : ℕ) (p new : Process) (j i : ℕ) → slice_get ps k ≡ Some p → new.held ≡ p.held
    → held_in (slice_set ps k new) j i ≡ held_in ps j i
same_map [] k p new j i at same = refl
same_map (a ∷ ps) zero p new zero i at same = ap (λ (m : Map Held). Rattle.o2_world.specs.Map.get m i) (same ∙ sym (the_held a p at))
  where
    the_held : (a p : Process) → Some a ≡ Some p → a.held ≡ p.held
    the_held a p e = cc
same_map (a ∷ ps) zero p new (suc j) i at same = refl
same_map (a ∷ ps) (suc k) p new zero i at same = refl
same_map (a ∷ ps) (suc k) p new (suc j) i at same = same_map ps k p new j i at same

pub same_at : (ps : List Process) (n : ℕ) (p new : Process) (j i : ℕ) → process_at ps n ≡ Some p → new.held ≡ p.held
    → held_in (with_process ps n new) j i ≡ held_in ps j i
same_at ps n p new j i at same =
    ap (λ (qs : List Process). held_in qs j i) (with_is ps n new (number_some ps n p at)) ∙ same_map ps (n - 1) p new j i (at_place_of ps n p at) same

same_number : (n : ℕ) → (n == n) ≡ true
same_number n = grind arith

-- the process that was put at a number
pub own_at : (ps : List Process) (n : ℕ) (p new : Process) → process_at ps n ≡ Some p → process_at (with_process ps n new) n ≡ Some new
own_at ps n p new at =
    let some = number_some ps n p at in
    process_is (with_process ps n new) n some
    ∙ ap (λ (qs : List Process). slice_get qs (n - 1)) (with_is ps n new some)
    ∙ set-place (n - 1) (n - 1) new ps p (at_place_of ps n p at)
    ∙ if_yes (n - 1 == n - 1) (Some new) (slice_get ps (n - 1)) (same_number (n - 1))

pub live_changes : (n : ℕ) (e : Effect) → is_live e.state ≡ true → all_changes n e ≡ e.changes
live_changes n e is = if_yes (is_live e.state) _ _ is

pub end_changes : (n : ℕ) (e : Effect) → is_live e.state ≡ false → all_changes n e ≡ e.changes ++ Finishes n e.state ∷ []
end_changes n e is = if_no (is_live e.state) _ _ is

module _ (w : World) (d : Dispatch) (p : Process) (e : Effect) (at : process_at w.processes d.current ≡ Some p) (can : CanTellAll (worked w d p e) e.changes) (tells : Tells e) where
  pub step_told : is_live e.state ≡ true → (q i : ℕ) → 0 < q
      → holds_at (changed w d p e) q i + went e.lines q (selector_of i) ≡ holds_at w q i + came e.lines q (selector_of i)
  unfolding changed
  step_told lives q i some =
      let h = changes_told tells.cause (worked w d p e) e.changes can q i some in
      let a = tells.came_by q (selector_of i) in
      let b = tells.went_by q (selector_of i) in
      let c = ap holds_of (same_at w.processes d.current p (working p e) (q - 1) i at refl) in
      let z = ap (λ (cs : List Change). place_holds (with_all (worked w d p e) cs) q i) (live_changes d.current e lives) in
      let u = number_holds (changed w d p e) q i some in
      let v = number_holds w q i some in
      omega (arith, h, a, b, c, z, u, v)

  with_more : (v : World) (xs ys : List Change) → with_changes v (xs ++ ys) ≡ with_changes (with_changes v xs) ys
  unfolding with_changes
  with_more v [] ys = refl
  with_more v (x ∷ xs) ys = with_more (with_change v x) xs ys

  -- what the process that ended holds, and others
  finished : (v : World) (n q i : ℕ) → 0 < q → 0 < n
      → place_holds (with_changes v (Finishes n e.state ∷ [])) q i ≡ (if q == n then 0 else place_holds v q i)
  unfolding with_changes
  finished v n q i some is =
      ap (λ (ps : List Process). holds_of (held_in ps (q - 1) i)) (changed_is n f v.processes is)
      ∙ ap (λ (o : Option Process). holds_of (held_of o i)) (get-place (n - 1) (q - 1) f v.processes) ∙ go (q - 1 == n - 1) (q == n) (number_is q n some is) (slice_get v.processes (q - 1))
    where
      f : Process → Process
      f x = record x { state = e.state; held = [] }

      go : (b c : Bool) → b ≡ c → (o : Option Process)
          → holds_of (held_of (if b then option_map f o else o) i) ≡ (if c then 0 else holds_of (held_of o i))
      go true true e None = refl
      go true true e (Some x) = refl
      go true false e o = absurd (cc)
      go false true e o = absurd (cc)
      go false false e o = refl

  pub end_told : is_live e.state ≡ false → 0 < d.current → (q i : ℕ) → 0 < q
      → (if q == d.current then holds_at (changed w d p e) q i else holds_at (changed w d p e) q i + went e.lines q (selector_of i))
      ≡ (if q == d.current then 0 else holds_at w q i + came e.lines q (selector_of i))
  unfolding changed
  end_told ends is q i some =
      let v = worked w d p e in
      let x = swept_holds (list_any takes (e.changes ++ Finishes d.current e.state ∷ [])) (with_changes v (e.changes ++ Finishes d.current e.state ∷ [])) q i in
      let y = ap (λ (z : World). place_holds z q i) (with_more v e.changes (Finishes d.current e.state ∷ [])) in
      let z = finished (with_changes v e.changes) d.current q i some is in
      let h = all_told tells.cause v e.changes can q i some in
      let a = tells.came_by q (selector_of i) ∙ moved_came tells.cause e.changes q (selector_of i) in
      let b = tells.went_by q (selector_of i) ∙ moved_went tells.cause e.changes q (selector_of i) in
      let c = ap holds_of (same_at w.processes d.current p (working p e) (q - 1) i at refl) in
      let u = ap (λ (cs : List Change). place_holds (with_all v cs) q i) (end_changes d.current e ends) in
      let k = number_holds (changed w d p e) q i some in
      let l = number_holds w q i some in
      by (q == d.current) (holds_at (changed w d p e) q i) (place_holds (with_changes v e.changes) q i) (holds_at w q i) (came e.lines q (selector_of i)) (went e.lines q (selector_of i)) (k ∙ u ∙ x ∙ y ∙ z) (omega (arith, h, a, b, c, l))
    where
      by : (t : Bool) (after mid old more less : ℕ) → after ≡ (if t then 0 else mid) → mid + less ≡ old + more
          → (if t then after else after + less) ≡ (if t then 0 else old + more)
      by true after mid old more less e f = e
      by false after mid old more less e f = omega (arith, e, f)
