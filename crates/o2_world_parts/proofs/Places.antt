-- A list with one place changed.
use Rattle.std.proofs.Common.{◌≡◌, ℕ, Bool, zero, suc, ◌-◌, ◌<◌, ◌≤◌, List, [], ◌∷◌, length, get_or, set, refl, ap, sym, ◌∙◌, Result, Ok, Err, arith}
use Rattle.std.specs.Prelude.{if◌then◌else◌}
use Rattle.std.specs.Result.{IfOk}
use Rattle.std.proofs.lemmas.Bool.{ne_eqb}
use Rattle.o2_world.specs.World.{Process}
use Rattle.o2_world.specs.Changes.{at_place, at_number}

pub at_place-past : {X : Type 0} (xs : List X) (i : ℕ) (f : X → X) → length xs ≤ i → at_place i f xs ≡ xs
at_place-past [] i f h = refl
at_place-past (x ∷ xs) zero f h = absurd (omega (arith, h))
at_place-past (x ∷ xs) (suc i) f h = ap (λ ys. x ∷ ys) (at_place-past xs i f (omega (arith, h)))

pub at_place-set : {X : Type 0} (xs : List X) (i : ℕ) (f : X → X) (x : X) → i < length xs → x ≡ get_or xs i x → at_place i f xs ≡ set xs i (f x)
at_place-set [] i f x h e = absurd (omega (arith, h))
at_place-set (y ∷ xs) zero f x h e = ap (λ z. f z ∷ xs) (sym e)
at_place-set (y ∷ xs) (suc i) f x h e = ap (λ ys. y ∷ ys) (at_place-set xs i f x (omega (arith, h)) e)

number-place : (n : ℕ) (f : Process → Process) (ps : List Process) → 0 < n → at_place (n - 1) f ps ≡ at_number n f ps
number-place n f ps h = sym (ap (λ (b : Bool). if b then ps else at_place (n - 1) f ps) (ne_eqb n 0 (λ e. omega (arith, e, h))))

-- a process that was put at its place
pub number-set : (ps : List Process) (n : ℕ) (f : Process → Process) (x y : Process) → 0 < n → n - 1 < length ps → x ≡ get_or ps (n - 1) x → y ≡ f x
    → set ps (n - 1) y ≡ at_number n f ps
number-set ps n f x y h l e d = ap (set ps (n - 1)) d ∙ (sym (at_place-set ps (n - 1) f x l e) ∙ number-place n f ps h)

pub number-ok : {T E : Type 0} (r : Result T E) (ps : List Process) (n : ℕ) (f : Process → Process) (x y : Process) → 0 < n → n - 1 < length ps → x ≡ get_or ps (n - 1) x
    → IfOk r (λ (t : T). y ≡ f x) → IfOk r (λ (t : T). set ps (n - 1) y ≡ at_number n f ps)
number-ok {T} {E} (Err e) ps n f x y h l at d = tt
number-ok {T} {E} (Ok t) ps n f x y h l at d = number-set ps n f x y h l at d

pub ruleset places = (at_place-past, at_place-set)
