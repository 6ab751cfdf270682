-- The first item that passes a test.
use Rattle.std.proofs.Common.{◌≡◌, ℕ, zero, suc, ◌<◌, List, [], ◌∷◌, Bool, true, false, Some, None, length, get_or, refl, arith}
use Rattle.std.specs.List.{find, slice_get}

module _ {X : Type 0} where
  -- where the items before i fail, and that at i passes
  pub find_at : (p : X → Bool) (xs : List X) (i : ℕ) (x : X) → ((k : ℕ) (d : X) → k < i → p (get_or xs k d) ≡ false)
      → slice_get xs i ≡ Some x → p x ≡ true → find p xs ≡ Some x
  find_at p [] i x fails h passes = absurd cc
  find_at p (y ∷ ys) zero x fails h passes = let same : y ≡ x = cc in rw (same, passes) refl
  find_at p (y ∷ ys) (suc i) x fails h passes =
      let no : p y ≡ false = fails 0 y (omega arith) in
      rw no (find_at p ys i x (λ k d lt. fails (suc k) d (omega arith)) h passes)

  -- where each item fails
  pub find_nowhere : (p : X → Bool) (xs : List X) → ((k : ℕ) (d : X) → k < length xs → p (get_or xs k d) ≡ false) → find p xs ≡ None
  find_nowhere p [] fails = refl
  find_nowhere p (y ∷ ys) fails =
      let no : p y ≡ false = fails 0 y (omega arith) in
      rw no (find_nowhere p ys (λ k d lt. fails (suc k) d (omega arith)))
