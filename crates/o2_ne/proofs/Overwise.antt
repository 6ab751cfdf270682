-- A loop that takes items in turn, each of which may fail: from a list, or from a table of values.
use Rattle.std.proofs.Common.{◌≡◌, ℕ, suc, ◌+◌, ◌-◌, ◌<◌, ◌≤◌, List, drop, length, get_or, Result, Ok, Err, refl, sym, ◌∙◌, add-one, arith}
use Rattle.std.proofs.Math.Seq.{drop-cons}
use Rattle.std.proofs.lemmas.List.{drop_all}
use Rattle.o2_base.specs.declared.memory.Fail.{Fail}
use Rattle.o2_base.specs.declared.memory.Fail.TheVariants.{Bad, NoMemory}
use Rattle.o2_ne.specs.Steps.{over, tabulate, Fails}

module _ {X S F : Type 0} where
  -- an item that passed leads to the same end
  pub goes_on : (f : X → S → Result S F) (xs : List X) (i : ℕ) (d : X) (s after : S) (total : Result S F) → i < length xs
      → f (get_or xs i d) s ≡ Ok after → over f (drop i xs) s ≡ total → over f (drop (i + 1) xs) after ≡ total
  unfolding over
  goes_on f xs i d s after total lt h so_far =
      let one : over f (drop i xs) s ≡ over f (drop (i + 1) xs) after = rw (drop-cons xs i d lt, h, add-one) refl in
      sym one ∙ so_far

  -- an item that failed is the end
  pub fails_here : (e : Fail F) (f : X → S → Result S F) (xs : List X) (i : ℕ) (d : X) (s : S) (total : Result S F) → i < length xs
      → Fails e (f (get_or xs i d) s) → over f (drop i xs) s ≡ total → Fails e total
  unfolding over
  fails_here NoMemory f xs i d s total lt h so_far = tt
  fails_here (Bad x) f xs i d s total lt h so_far =
      let one : over f (drop i xs) s ≡ Err x = rw (drop-cons xs i d lt, h) refl in
      sym so_far ∙ one

  -- no item is left
  pub is_done : (f : X → S → Result S F) (xs : List X) (i : ℕ) (s : S) (total : Result S F) → length xs ≤ i → over f (drop i xs) s ≡ total → total ≡ Ok s
  unfolding over
  is_done f xs i s total le so_far =
      let one : over f (drop i xs) s ≡ Ok s = rw (drop_all i xs le) refl in
      sym so_far ∙ one

  -- the same over a table of n values
  pub row_goes_on : (f : X → S → Result S F) (g : ℕ → X) (n k : ℕ) (s after : S) (total : Result S F) → k < n
      → f (g k) s ≡ Ok after → over f (tabulate g k (n - k)) s ≡ total → over f (tabulate g (k + 1) (n - (k + 1))) after ≡ total
  unfolding over tabulate
  row_goes_on f g n k s after total lt h so_far =
      let e : n - k ≡ suc (n - (k + 1)) = omega arith in
      let one : over f (tabulate g k (n - k)) s ≡ over f (tabulate g (k + 1) (n - (k + 1))) after = rw (e, h) refl in
      sym one ∙ so_far

  pub row_fails_here : (e : Fail F) (f : X → S → Result S F) (g : ℕ → X) (n k : ℕ) (s : S) (total : Result S F) → k < n
      → Fails e (f (g k) s) → over f (tabulate g k (n - k)) s ≡ total → Fails e total
  unfolding over tabulate
  row_fails_here NoMemory f g n k s total lt h so_far = tt
  row_fails_here (Bad x) f g n k s total lt h so_far =
      let e : n - k ≡ suc (n - (k + 1)) = omega arith in
      let one : over f (tabulate g k (n - k)) s ≡ Err x = rw (e, h) refl in
      sym so_far ∙ one

  pub row_is_done : (f : X → S → Result S F) (g : ℕ → X) (n k : ℕ) (s : S) (total : Result S F) → n ≤ k → over f (tabulate g k (n - k)) s ≡ total → total ≡ Ok s
  unfolding over tabulate
  row_is_done f g n k s total le so_far =
      let e : n - k ≡ 0 = omega arith in
      let one : over f (tabulate g k (n - k)) s ≡ Ok s = rw e refl in
      sym so_far ∙ one
