-- What holds of each item of a list.
use Rattle.std.proofs.Common.{◌≡◌, ℕ, ◌+◌, ◌<◌, List, length, get_or, sym, subst, arith, below_more}
use Rattle.std.proofs.lemmas.List.{get_or_default}

module _ {X : Type 0} where
  -- of those before index i, and of that at i
  pub each_more : (P : X → Type 0) (xs : List X) (i : ℕ) (e : X) → i < length xs
      → ((k : ℕ) (d : X) → k < i → P (get_or xs k d)) → P (get_or xs i e)
      → (k : ℕ) (d : X) → k < i + 1 → P (get_or xs k d)
  each_more P xs i e lt below here k d h =
      below_more (λ (q : ℕ). P (get_or xs q d)) i (λ q b. below q d b) (subst P (get_or_default xs i e d lt) here) k h

  -- of those of a list, and of one more behind them, each at its index
  pub each_pushed_at : (P : ℕ → X → Type 0) (xs ys : List X) → length ys ≡ length xs + 1
      → ((k : ℕ) (d : X) → k < length xs → get_or ys k d ≡ get_or xs k d) → ((d : X) → P (length xs) (get_or ys (length xs) d))
      → ((k : ℕ) (d : X) → k < length xs → P k (get_or xs k d)) → (k : ℕ) (d : X) → k < length ys → P k (get_or ys k d)
  each_pushed_at P xs ys longer same here old k d h =
      below_more (λ (q : ℕ). P q (get_or ys q d)) (length xs) (λ q b. subst (P q) (sym (same q d b)) (old q d b)) (here d) k (omega arith)

  pub each_pushed : (P : X → Type 0) (xs ys : List X) → length ys ≡ length xs + 1
      → ((k : ℕ) (d : X) → k < length xs → get_or ys k d ≡ get_or xs k d) → ((d : X) → P (get_or ys (length xs) d))
      → ((k : ℕ) (d : X) → k < length xs → P (get_or xs k d)) → (k : ℕ) (d : X) → k < length ys → P (get_or ys k d)
  each_pushed P xs ys longer same here old = each_pushed_at (λ (k : ℕ) (x : X). P x) xs ys longer same here old
