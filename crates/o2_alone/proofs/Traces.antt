-- The events of a run from its first step on, for rows that are computed: no step is taken twice.
use Rattle.std.proofs.Common.{◌≡◌, refl, sym, ◌∙◌, ap, ℕ, zero, suc, List, [], ◌∷◌, ◌++◌}
use Rattle.o2_world.specs.World.{World, Setting}
use Rattle.o2_world.specs.Run.{after, step}
use Rattle.o2_alone.specs.Events.{Event, event_list, events, next_before}

abbrev pub trace : Setting → World → ℕ → List Event
trace s w zero = []
trace s w (suc k) = event_list (next_before s w) ++ trace s (step s w) k

after_one : (s : Setting) (w : World) (k : ℕ) → after s (step s w) k ≡ step s (after s w k)
after_one s w zero = refl
after_one s w (suc k) = ap (step s) (after_one s w k)

append_all : (xs ys zs : List Event) → (xs ++ ys) ++ zs ≡ xs ++ (ys ++ zs)
append_all [] ys zs = refl
append_all (x ∷ xs) ys zs = ap (λ (es : List Event). x ∷ es) (append_all xs ys zs)

nothing_more : (xs : List Event) → xs ++ [] ≡ xs
nothing_more [] = refl
nothing_more (x ∷ xs) = ap (λ (es : List Event). x ∷ es) (nothing_more xs)

last_behind : (s : Setting) (w : World) (k : ℕ) → trace s w (suc k) ≡ trace s w k ++ event_list (next_before s (after s w k))
last_behind s w zero = nothing_more (event_list (next_before s w))
last_behind s w (suc k) =
    ap (λ (es : List Event). event_list (next_before s w) ++ es)
    (last_behind s (step s w) k ∙ ap (λ (v : World). trace s (step s w) k ++ event_list (next_before s v)) (after_one s w k))
    ∙ sym (append_all (event_list (next_before s w)) (trace s (step s w) k) (event_list (next_before s (step s (after s w k)))))

pub events_are : (s : Setting) (w : World) (k : ℕ) → events s w k ≡ trace s w k
unfolding events
events_are s w zero = refl
events_are s w (suc k) = ap (λ (es : List Event). es ++ event_list (next_before s (after s w k))) (events_are s w k) ∙ sym (last_behind s w k)
