-- Items taken in turn, until one passes or fails a test.
use Rattle.std.proofs.Common.{◌≡◌, ◌≢◌, ℕ, zero, suc, ◌+◌, ◌-◌, ◌<◌, ◌≤◌, ◌==◌, List, [], ◌∷◌, Bool, true, false, not, Option, Some, None, ◌++◌, append_assoc, map, drop, get_or, length, refl, sym, ap, ◌∙◌, add-one, arith}
use Rattle.std.specs.List.{find, list_any, slice_get}
use Rattle.std.proofs.Math.Seq.{drop-cons}
use Rattle.std.proofs.lemmas.Bool.{ne_eqb}
use Rattle.std.proofs.lemmas.List.{drop_all, map-append}
use Rattle.std.proofs.lemmas.Option.{get_or_from_slice_get}
use Rattle.o2_image.specs.Getters.{nth}

next_number : (k : ℕ) → (k + 1 == 0) ≡ false
next_number k = let some : k + 1 ≢ 0 = omega arith in ne_eqb (k + 1) 0 some

module _ {X : Type 0} where
  pub rest_from : (xs : List X) (k : ℕ) (x d : X) → k < length xs → x ≡ get_or xs k d → drop k xs ≡ x ∷ drop (k + 1) xs
  rest_from xs k x d lt is = rw (drop-cons xs k d lt, ← is, add-one) refl

  pub any_goes_on : (p : X → Bool) (xs : List X) (k : ℕ) (x d : X) (b total : Bool) → k < length xs → x ≡ get_or xs k d → b ≡ p x → b ≡ false
      → list_any p (drop k xs) ≡ total → list_any p (drop (k + 1) xs) ≡ total
  any_goes_on p xs k x d b total lt is tested fails h = rw (rest_from xs k x d lt is, ← tested, fails) at h

  pub any_here : (p : X → Bool) (xs : List X) (k : ℕ) (x d : X) (b total : Bool) → k < length xs → x ≡ get_or xs k d → b ≡ p x → b ≡ true
      → list_any p (drop k xs) ≡ total → true ≡ total
  any_here p xs k x d b total lt is tested passes h = rw (rest_from xs k x d lt is, ← tested, passes) at h

  pub any_none : (p : X → Bool) (xs : List X) (k : ℕ) (total : Bool) → length xs ≤ k → list_any p (drop k xs) ≡ total → false ≡ total
  any_none p xs k total le h = rw (drop_all k xs le) at h

  -- the first item that fails a test
  pub lost_goes_on : (p : X → Bool) (xs : List X) (k : ℕ) (x d : X) (b : Bool) (total : Option X) → k < length xs → x ≡ get_or xs k d → b ≡ p x → b ≡ true
      → find (λ y. not (p y)) (drop k xs) ≡ total → find (λ y. not (p y)) (drop (k + 1) xs) ≡ total
  lost_goes_on p xs k x d b total lt is tested passes h = rw (rest_from xs k x d lt is, ← tested, passes) at h

  pub lost_here : (p : X → Bool) (xs : List X) (k : ℕ) (x d : X) (b : Bool) (total : Option X) → k < length xs → x ≡ get_or xs k d → b ≡ p x → b ≡ false
      → find (λ y. not (p y)) (drop k xs) ≡ total → Some x ≡ total
  lost_here p xs k x d b total lt is tested fails h = rw (rest_from xs k x d lt is, ← tested, fails) at h

  pub lost_none : (p : X → Bool) (xs : List X) (k : ℕ) (total : Option X) → length xs ≤ k → find (λ y. not (p y)) (drop k xs) ≡ total → None ≡ total
  lost_none p xs k total le h = rw (drop_all k xs le) at h

  pub is_there : (xs : List X) (k : ℕ) → k < length xs → None ≡ slice_get xs k → ⊥
  is_there [] k lt h = absurd (omega arith)
  is_there (x ∷ xs) zero lt h = cc
  is_there (x ∷ xs) (suc k) lt h = is_there xs k (omega arith) h

  -- an item by its number from 1
  pub nth_next : (xs : List X) (k : ℕ) → nth xs (k + 1) ≡ slice_get xs k
  nth_next xs k =
      let one : k + 1 - 1 ≡ k = omega arith in
      rw (next_number k, one) refl

  pub nth_item : (xs : List X) (k : ℕ) (x d : X) → Some x ≡ nth xs (k + 1) → x ≡ get_or xs k d
  nth_item xs k x d h = sym (get_or_from_slice_get xs k x d (sym (h ∙ nth_next xs k)))

  pub nth_there : (xs : List X) (k : ℕ) → k < length xs → None ≡ nth xs (k + 1) → ⊥
  nth_there xs k lt h = is_there xs k lt (h ∙ nth_next xs k)

-- one item more, where lists are gathered from lists
pub pushed_map : {V X B : Type 0} (g : V → B) (f : X → B) (xs : List X) (i : ℕ) (x : X) (vs new : List V) (v : V) (total : List B) → i < length xs → x ≡ get_or xs i x
    → new ≡ vs ++ v ∷ [] → g v ≡ f x → map g vs ++ map f (drop i xs) ≡ total → map g new ++ map f (drop (i + 1) xs) ≡ total
pushed_map {V} {X} {B} g f xs i x vs new v total lt at pushed is h =
    let rest : List B = map f (drop (i + 1) xs) in
    let one : map f (drop i xs) ≡ f x ∷ rest = rw (rest_from xs i x x lt at) refl in
    ap (λ (z : List V). map g z ++ rest) pushed ∙ ap (λ (z : List B). z ++ rest) (map-append g vs (v ∷ [])) ∙ append_assoc (map g vs) (g v ∷ []) rest
    ∙ ap (λ (z : B). map g vs ++ (z ∷ rest)) is ∙ sym (ap (λ (z : List B). map g vs ++ z) one) ∙ h
