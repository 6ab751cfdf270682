-- A map whose pairs are gone through, each changed; and where only those with a key are.
use Rattle.std.proofs.Common.{◌≡◌, ℕ, ◌+◌, ◌<◌, ◌++◌, length, map, take, drop, get_or, set, refl, ◌∙◌, ap, arith}
use Rattle.std.proofs.lemmas.List.Edits.{map_over_more}
use Rattle.std.proofs.lemmas.List.{take_all, drop_all, append-nil}
use Rattle.o2_world.specs.Map.{Map, at_key}
use Rattle.o2_world_parts.specs.Pairs.{keyed}

pub over_more : {X : Type 0} (f : ℕ × X → ℕ × X) (xs ys : Map X) (i : ℕ) (e d : ℕ × X) → i < length xs → ys ≡ map f (take i xs) ++ drop i xs → e ≡ get_or ys i e → d ≡ f e
    → set ys i d ≡ map f (take (i + 1) xs) ++ drop (i + 1) xs
over_more f xs ys i e d within is at q = ap (set ys i) q ∙ map_over_more f xs ys i e within is at

pub over_all : {X : Type 0} (f : ℕ × X → ℕ × X) (xs : Map X) (n : ℕ) → n ≡ length xs → map f (take n xs) ++ drop n xs ≡ map f xs
over_all f xs n e =
    rw (take_all n xs (omega (arith, e)), drop_all n xs (omega (arith, e)), append-nil (map f xs)) refl

pub keyed_more : {X : Type 0} (k : ℕ) (f : X → X) (xs ys : Map X) (i : ℕ) (e : ℕ × X) → i < length xs → ys ≡ map (keyed k f) (take i xs) ++ drop i xs → e ≡ get_or ys i e
    → set ys i (keyed k f e) ≡ map (keyed k f) (take (i + 1) xs) ++ drop (i + 1) xs
keyed_more k f xs ys i e within is at = map_over_more (keyed k f) xs ys i e within is at

pub keyed_set : {X : Type 0} (k : ℕ) (f : X → X) (xs ys : Map X) (i : ℕ) (e d : ℕ × X) → i < length xs → ys ≡ map (keyed k f) (take i xs) ++ drop i xs → e ≡ get_or ys i e → d ≡ keyed k f e
    → set ys i d ≡ map (keyed k f) (take (i + 1) xs) ++ drop (i + 1) xs
keyed_set k f xs ys i e d within is at q = ap (set ys i) q ∙ keyed_more k f xs ys i e within is at

pub keyed_all : {X : Type 0} (k : ℕ) (f : X → X) (xs : Map X) (n : ℕ) → n ≡ length xs → map (keyed k f) (take n xs) ++ drop n xs ≡ at_key k f xs
keyed_all k f xs n e =
    rw (take_all n xs (omega (arith, e)), drop_all n xs (omega (arith, e)), append-nil (map (keyed k f) xs)) refl

pub ruleset mapped = (keyed_more, keyed_all)

pub ruleset over = over_all
