-- Items by their numbers from 1.
use Rattle.std.proofs.Common.{◌≡◌, ◌≢◌, ℕ, zero, suc, ◌-◌, ◌<◌, ◌≤◌, ◌==◌, List, [], ◌∷◌, Option, Some, None, Bool, true, false, get_or, length, map, refl, sym, ap, ◌∙◌, arith}
use Rattle.std.specs.Prelude.{option_map, unwrap_or}
use Rattle.std.specs.List.{slice_get}
use Rattle.std.proofs.lemmas.Bool.{ne_eqb}
use Rattle.std.proofs.lemmas.Option.{slice_get-map}
use Rattle.o2_ne.specs.Steps.{tabulate}
use Rattle.o2_ne.proofs.Tabulated.{slice_get-table, slice_get-tabulate_past}
use Rattle.o2_image.specs.Getters.{list_or_none, nth, nth_list}

module _ {X : Type 0} where
  pub nth_there : (f : ℕ → X) (n k : ℕ) → k ≢ 0 → k ≤ n → nth (tabulate f 0 n) k ≡ Some (f (k - 1))
  nth_there f n k some le =
      let e : (k == 0) ≡ false = ne_eqb k 0 some in
      rw e (slice_get-table f n (k - 1) (omega arith))

  pub nth_past : (f : ℕ → X) (n k : ℕ) → n < k → nth (tabulate f 0 n) k ≡ None
  nth_past f n k lt =
      let some : k ≢ 0 = omega arith in
      let e : (k == 0) ≡ false = ne_eqb k 0 some in
      rw e (slice_get-tabulate_past f 0 n (k - 1) (omega arith))

module _ {A X : Type 0} where
  -- a list of lists that a function gives
  pub nth_list-map : (f : A → List X) (xs : List A) (n : ℕ) (x : A) → nth xs n ≡ Some x → nth_list (map f xs) n ≡ f x
  nth_list-map f xs n x h = go (n == 0) refl
    where
      go : (b : Bool) → (n == 0) ≡ b → nth_list (map f xs) n ≡ f x
      go true e = let bad = rw e at h in absurd cc
      go false e = let here = rw e at h in rw (e, slice_get-map f xs (n - 1), here) refl

module _ {X : Type 0} where
  length_of : (o : Option (List X)) → length (list_or_none o) ≡ unwrap_or (option_map length o) 0
  length_of None = refl
  length_of (Some xs) = refl

  length-nth_list : (xss : List (List X)) (n : ℕ) → length (nth_list xss n) ≡ unwrap_or (nth (map length xss) n) 0
  length-nth_list xss n = go (n == 0) refl
    where
      go : (b : Bool) → (n == 0) ≡ b → length (nth_list xss n) ≡ unwrap_or (nth (map length xss) n) 0
      go true e = rw e refl
      go false e = rw (e, slice_get-map length xss (n - 1)) (length_of (slice_get xss (n - 1)))

-- a list by its number from 1
module _ {X : Type 0} where
  list_or_get : (xss : List (List X)) (k : ℕ) → list_or_none (slice_get xss k) ≡ get_or xss k []
  list_or_get [] k = refl
  list_or_get (xs ∷ xss) zero = refl
  list_or_get (xs ∷ xss) (suc k) = list_or_get xss k

  pub at_number : (xss : List (List X)) (n : ℕ) → n ≢ 0 → nth_list xss n ≡ get_or xss (n - 1) []
  at_number xss n some =
      let e : (n == 0) ≡ false = ne_eqb n 0 some in
      rw e (list_or_get xss (n - 1))

-- lists of the same lengths have lists of the same length at each number
pub same_lengths : {A B : Type 0} (xss : List (List A)) (yss : List (List B)) (n : ℕ) → map length xss ≡ map length yss → length (nth_list xss n) ≡ length (nth_list yss n)
same_lengths xss yss n h =
    length-nth_list xss n ∙ ap (λ (ls : List ℕ). unwrap_or (nth ls n) 0) h ∙ sym (length-nth_list yss n)

pub not_none : {X : Type 0} (xs : List X) (k : ℕ) → k < length xs → slice_get xs k ≡ None → ⊥
not_none [] k lt h = absurd (omega arith)
not_none (x ∷ xs) zero lt h = cc
not_none (x ∷ xs) (suc k) lt h = not_none xs k (omega arith) h

-- a number that exists has its item
pub exists_some : {X : Type 0} (xs : List X) (n : ℕ) → 1 ≤ n → n ≤ length xs → nth xs n ≡ None → ⊥
exists_some xs n low high h =
    let some : n ≢ 0 = omega arith in
    let e : (n == 0) ≡ false = ne_eqb n 0 some in
    not_none xs (n - 1) (omega arith) (rw e at h)
