-- Each name stands once behind changes.
use Rattle.std.proofs.Common.{◌≡◌, ℕ, Bool, true, false, cond, List, [], ◌∷◌, Option, Some, None, is_some, refl, ◌∙◌, arith, if◌then◌else◌}
use Rattle.std.specs.Prelude.{filter, option_map, ◌==◌}
use Rattle.std.specs.List.{list_any}
use Rattle.o2_world.specs.Changes.{Change, Drops, Finishes, Frees, Holds, Locks, Makes, Marks, Names, Reserves, Resizes, marked, resized, swept, takes, with_all, with_change, with_changes}
use Rattle.o2_world.specs.Discards.{all_discarded, behind_discard}
use Rattle.o2_world.specs.Holders.{is_held}
use Rattle.o2_world.specs.Map.{Map, at_key, get}
use Rattle.o2_world.specs.Tied.{AreFitChanges, IsTied}
use Rattle.o2_world.specs.World.{Process, Segment, World}
use Rattle.o2_world.proofs.Discarding.{get_discarded}
use Rattle.o2_world.proofs.MapLemmas.{get-filter, get-map}
use Rattle.o2_world.proofs.TiedChanges.{change_tied}
use Rattle.o2_stands.specs.Stands.{AreOnce}

none_of : {X : Type 0} (o : Option X) → (is_some o ≡ true → ⊥) → o ≡ None
none_of None f = refl
none_of (Some x) f = absurd (f refl)

none_stays : (f : Segment → Segment) (o : Option Segment) → o ≡ None → option_map f o ≡ None
none_stays f None e = refl
none_stays f (Some s) e = absurd (let x : Some s ≡ None = e in cc)

once_at_key : (n : ℕ) (f : Segment → Segment) (m : Map Segment) → AreOnce m → AreOnce (at_key n f m)
once_at_key n f [] once = once
once_at_key n f (e ∷ es) once =
    let put : ℕ → Segment → Segment = λ k s. if k == n then f s else s in
    (get-map put es e.0 ∙ none_stays (put e.0) (get es e.0) once.0, once_at_key n f es once.1)

-- behind a word that discards
pub once_discarded : (ps : List Process) (m : Map Segment) → AreOnce m → AreOnce (all_discarded ps m)
unfolding all_discarded
once_discarded ps [] once = once
once_discarded ps (e ∷ es) once = (get_discarded ps es e.0 ∙ none_stays (behind_discard ps e.0) (get es e.0) once.0, once_discarded ps es once.1)

-- where some names go
pub once_kept : (p : ℕ → Bool) (m : Map Segment) → AreOnce m → AreOnce (filter (λ (e : ℕ × Segment). p e.0) m)
once_kept p [] once = once
once_kept p (e ∷ es) once = go (p e.0) (once_kept p es once.1)
  where
    none : (b : Bool) (o : Option Segment) → o ≡ None → cond b o None ≡ None
    none true o z = z
    none false o z = refl

    go : (b : Bool) → AreOnce (filter (λ (e : ℕ × Segment). p e.0) es) → AreOnce (cond b (e ∷ filter (λ (e : ℕ × Segment). p e.0) es) (filter (λ (e : ℕ × Segment). p e.0) es))
    go true rest = (get-filter p es e.0 ∙ none (p e.0) (get es e.0) once.0, rest)
    go false rest = rest

-- a name that is made is new
new_is : (w : World) → IsTied w → get w.names w.next_name ≡ None
new_is w tied = none_of (get w.names w.next_name) (λ e. (let l = tied.below w.next_name e in absurd (omega (arith, l))))

pub once_change : (w : World) (c : Change) → IsTied w → AreOnce w.names → AreOnce (with_change w c).names
once_change w (Makes s) tied once = (new_is w tied, once)
once_change w (Resizes n size) tied once = once_at_key n (λ (s : Segment). record s { bytes = resized size s.bytes }) w.names once
once_change w (Locks n count) tied once = once_at_key n (λ (s : Segment). record s { lock = count }) w.names once
once_change w (Marks n discarded) tied once = once_at_key n (marked discarded) w.names once
once_change w (Holds p i h) tied once = once
once_change w (Drops p i count) tied once = once
once_change w (Finishes p state) tied once = once
once_change w (Reserves r) tied once = once
once_change w (Frees region first) tied once = once
once_change w (Names text name) tied once = once

once_changes : (w : World) (cs : List Change) → AreFitChanges w cs → IsTied w → AreOnce w.names → AreOnce (with_changes w cs).names
unfolding with_changes
once_changes w [] fit tied once = once
once_changes w (c ∷ cs) fit tied once = once_changes (with_change w c) cs fit.1 (change_tied w c fit.0 tied) (once_change w c tied once)

pub once_all : (w : World) (cs : List Change) → AreFitChanges w cs → IsTied w → AreOnce w.names → AreOnce (with_all w cs).names
once_all w cs fit tied once = go (list_any takes cs)
  where
    go : (b : Bool) → AreOnce (if b then swept (with_changes w cs) else with_changes w cs).names
    go true = once_kept (is_held (with_changes w cs).processes) (with_changes w cs).names (once_changes w cs fit tied once)
    go false = once_changes w cs fit tied once
