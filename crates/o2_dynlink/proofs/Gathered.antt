-- What gathering gives, item by item.
use Rattle.std.proofs.Common.{◌≡◌, ◌==◌, List, [], ◌∷◌, ◌++◌, length, refl, sym, ap, ◌∙◌, append_assoc, append-nil, Result, Ok, Err, true, eq-eqb, suc, subst}
use Rattle.o2_ne.specs.Checks.{◌>>=◌}
use Rattle.o2_ne.specs.Steps.{over}
use Rattle.o2_image.specs.ImageList.{same_shape}
use Rattle.o2_dynlink.specs.Imports.{each, gather}

module _ {X Y F : Type 0} where
  -- f gives each item of the one list for that of the other
  abbrev pub Pairs : (X → Result Y F) → List X → List Y → Type 0
  Pairs f [] [] = Unit {0}
  Pairs f [] (y ∷ ys) = ⊥
  Pairs f (x ∷ xs) [] = ⊥
  Pairs f (x ∷ xs) (y ∷ ys) = (f x ≡ Ok y) × Pairs f xs ys

  pub gathered : (f : X → Result Y F) (xs : List X) (found all : List Y) → over (gather f) xs found ≡ Ok all → (ys : List Y) × (all ≡ found ++ ys) × Pairs f xs ys
  unfolding over
  gathered f [] found all h =
      let is : found ≡ all = cc in
      ([], sym is ∙ sym (append-nil found), tt)
  gathered f (x ∷ xs) found all h = go (f x) refl (gathered f xs) h
    where
      go : (r : Result Y F) → f x ≡ r
          → ((before : List Y) (whole : List Y) → over (gather f) xs before ≡ Ok whole → (ys : List Y) × (whole ≡ before ++ ys) × Pairs f xs ys)
          → ((r >>= (λ y. Ok (found ++ y ∷ []))) >>= over (gather f) xs) ≡ Ok all → (ys : List Y) × (all ≡ found ++ ys) × Pairs f (x ∷ xs) ys
      go (Ok y) e next k =
          let rest = next (found ++ y ∷ []) all k in
          (y ∷ rest.0, rest.1 ∙ append_assoc found (y ∷ []) rest.0, (e, rest.2))
      go (Err e) is next k = absurd cc

  pub pairs : (f : X → Result Y F) (xs : List X) (ys : List Y) → each f xs ≡ Ok ys → Pairs f xs ys
  pairs f xs ys h = let g = gathered f xs [] ys h in subst (Pairs f xs) (sym g.1) g.2

  pub pairs_length : (f : X → Result Y F) (xs : List X) (ys : List Y) → Pairs f xs ys → length ys ≡ length xs
  pairs_length f [] [] h = refl
  pairs_length f [] (y ∷ ys) h = absurd h
  pairs_length f (x ∷ xs) [] h = absurd h
  pairs_length f (x ∷ xs) (y ∷ ys) h = ap suc (pairs_length f xs ys h.1)

-- lists gathered from lists have their shape
pub pairs_shape : {X Y F : Type 0} (f : X → Result Y F) (xss : List (List X)) (yss : List (List Y)) → Pairs (each f) xss yss → same_shape yss xss ≡ true
pairs_shape f [] [] h = refl
pairs_shape f [] (y ∷ ys) h = absurd h
pairs_shape f (x ∷ xs) [] h = absurd h
pairs_shape f (xs ∷ xss) (ys ∷ yss) h =
    let same : (length ys == length xs) ≡ true = eq-eqb _ _ (pairs_length f xs ys (pairs f xs ys h.0)) in
    rw same (pairs_shape f xss yss h.1)
