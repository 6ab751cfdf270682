-- The lines of the starts, as far as a loop has come.
use Rattle.std.proofs.Common.{◌≡◌, ◌<◌, ℕ, zero, suc, ◌+◌, List, [], ◌∷◌, ◌++◌, map, take, drop, length, get_or, Option, Some, arith, ap, sym, ◌∙◌, refl, append_assoc, append-nil, subst, add-one}
use Rattle.std.specs.Prelude.{slice_get, codes}
use Rattle.o2_world.specs.World.{Line, HoldsBy}
use Rattle.o2_world.specs.Opening.{hold_lines, start_lines}
use Rattle.o2_dynlink.specs.Outcome.{LinkedParts}
use Rattle.o2_load.specs.Beginnings.{lines_from, program_name}

-- those of holds
holds_to : (p : ℕ) (xs : List ℕ) (i : ℕ) → i < length xs → hold_lines p (take (suc i) xs) ≡ hold_lines p (take i xs) ++ HoldsBy p (get_or xs i 0) (codes "load") ∷ []
holds_to p [] i h = absurd (omega (arith, h))
holds_to p (x ∷ xs) zero h = refl
holds_to p (x ∷ xs) (suc i) h = ap (λ (z : List Line). HoldsBy p x (codes "load") ∷ z) (holds_to p xs i (omega (arith, h)))

pub holds_more : (p : ℕ) (xs : List ℕ) (i : ℕ) → i < length xs → hold_lines p (take (i + 1) xs) ≡ hold_lines p (take i xs) ++ HoldsBy p (get_or xs i 0) (codes "load") ∷ []
holds_more p xs i h = ap (λ (k : ℕ). hold_lines p (take k xs)) (add-one i) ∙ holds_to p xs i h

pub holds_split : (p : ℕ) (xs : List ℕ) (i : ℕ) → i < length xs
    → hold_lines p xs ≡ hold_lines p (take i xs) ++ HoldsBy p (get_or xs i 0) (codes "load") ∷ hold_lines p (drop (suc i) xs)
holds_split p [] i h = absurd (omega (arith, h))
holds_split p (x ∷ xs) zero h = refl
holds_split p (x ∷ xs) (suc i) h = ap (λ (z : List Line). HoldsBy p x (codes "load") ∷ z) (holds_split p xs i (omega (arith, h)))

-- those of starts
abbrev start : LinkedParts → ℕ → List ℕ → List Line
start l p xs = start_lines p (program_name l p) xs

same_row : (xs row : List ℕ) → ◌≡◌ {A = Option (List ℕ)} (Some xs) (Some row) → row ≡ xs
same_row xs row e = cc

pub starts_split : (l : LinkedParts) (xss : List (List ℕ)) (p i n : ℕ) (row : List ℕ) → n ≡ p + i → slice_get xss i ≡ Some row
    → lines_from l p xss ≡ lines_from l p (take i xss) ++ (start l n row ++ lines_from l (n + 1) (drop (suc i) xss))
starts_split l [] p i n row e h = absurd (cc)
starts_split l (xs ∷ xss) p zero n row e h =
    let m : n ≡ p = omega (arith, e) in
    subst (λ (z : ℕ). lines_from l p (xs ∷ xss) ≡ start l z row ++ lines_from l (z + 1) xss) (sym m)
    (ap (λ (z : List ℕ). start l p z ++ lines_from l (p + 1) xss) (sym (same_row xs row h)))
starts_split l (xs ∷ xss) p (suc i) n row e h =
    ap (λ (z : List Line). start l p xs ++ z) (starts_split l xss (p + 1) i n row (omega (arith, e)) h)
    ∙ sym (append_assoc (start l p xs) (lines_from l (p + 1) (take i xss)) (start l n row ++ lines_from l (n + 1) (drop (suc i) xss)))

pub starts_more : (l : LinkedParts) (xss : List (List ℕ)) (p i n : ℕ) (row : List ℕ) → n ≡ p + i → slice_get xss i ≡ Some row
    → lines_from l p (take (suc i) xss) ≡ lines_from l p (take i xss) ++ start l n row
starts_more l [] p i n row e h = absurd (cc)
starts_more l (xs ∷ xss) p zero n row e h =
    let m : n ≡ p = omega (arith, e) in
    subst (λ (z : ℕ). lines_from l p (xs ∷ []) ≡ start l z row) (sym m)
    (subst (λ (z : List ℕ). lines_from l p (xs ∷ []) ≡ start l p z) (sym (same_row xs row h)) (append-nil (start l p xs)))
starts_more l (xs ∷ xss) p (suc i) n row e h =
    ap (λ (z : List Line). start l p xs ++ z) (starts_more l xss (p + 1) i n row (omega (arith, e)) h)
    ∙ sym (append_assoc (start l p xs) (lines_from l (p + 1) (take i xss)) (start l n row))
