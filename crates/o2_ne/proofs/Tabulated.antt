-- A list of the values of a function, one after the other.
use Rattle.std.proofs.Common.{◌≡◌, Bool, true, false, ℕ, zero, suc, ◌+◌, ◌-◌, ◌<◌, ◌≤◌, List, [], ◌∷◌, ◌++◌, Some, None, length, get_or, refl, rules, ap, sym, ◌∙◌, arith, append_assoc}
use Rattle.std.specs.List.{find, list_all, slice_get}
use Rattle.std.proofs.lemmas.Option.{slice_get_past}
use Rattle.o2_ne.specs.Steps.{tabulate}

module _ {X : Type 0} where
  -- what is found, then the value at k, then those behind it
  pub goes_on : (f : ℕ → X) (n k : ℕ) (found total : List X) → k < n
      → found ++ tabulate f k (n - k) ≡ total
      → (found ++ f k ∷ []) ++ tabulate f (k + 1) (n - (k + 1)) ≡ total
  unfolding tabulate
  goes_on f n k found total lt h =
      let e : n - k ≡ suc (n - (k + 1)) = omega arith in
      let one : tabulate f k (n - k) ≡ f k ∷ tabulate f (k + 1) (n - (k + 1)) = rw e refl in
      append_assoc found (f k ∷ []) (tabulate f (k + 1) (n - (k + 1)))
      ∙ ap (λ (rs : List X). found ++ rs) (sym one) ∙ h

  pub is_done : (f : ℕ → X) (n k : ℕ) (found total : List X) → n ≤ k → found ++ tabulate f k (n - k) ≡ total → found ≡ total
  unfolding tabulate
  is_done f n k found total le h =
      let e : n - k ≡ 0 = omega arith in
      let one : found ++ tabulate f k (n - k) ≡ found = rw e (search rules) in
      sym one ∙ h

  pub length-tabulate : (f : ℕ → X) (i n : ℕ) → length (tabulate f i n) ≡ n
  unfolding tabulate
  length-tabulate f i zero = refl
  length-tabulate f i (suc n) = rw (length-tabulate f (i + 1) n) (omega arith)

  pub get_or-tabulate : (f : ℕ → X) (i n k : ℕ) (d : X) → k < n → get_or (tabulate f i n) k d ≡ f (i + k)
  unfolding tabulate
  get_or-tabulate f i zero k d lt = absurd (omega arith)
  get_or-tabulate f i (suc n) zero d lt = let e : i + 0 ≡ i = omega arith in rw e refl
  get_or-tabulate f i (suc n) (suc k) d lt =
      let e : i + 1 + k ≡ i + suc k = omega arith in
      get_or-tabulate f (i + 1) n k d (omega arith) ∙ ap f e

  pub slice_get-tabulate : (f : ℕ → X) (i n k : ℕ) → k < n → slice_get (tabulate f i n) k ≡ Some (f (i + k))
  unfolding tabulate
  slice_get-tabulate f i zero k lt = absurd (omega arith)
  slice_get-tabulate f i (suc n) zero lt = let e : i + 0 ≡ i = omega arith in rw e refl
  slice_get-tabulate f i (suc n) (suc k) lt =
      let e : i + 1 + k ≡ i + suc k = omega arith in
      slice_get-tabulate f (i + 1) n k (omega arith) ∙ ap (λ (q : ℕ). Some (f q)) e

  pub slice_get-tabulate_past : (f : ℕ → X) (i n k : ℕ) → n ≤ k → slice_get (tabulate f i n) k ≡ None
  slice_get-tabulate_past f i n k le = slice_get_past (tabulate f i n) k (let e = length-tabulate f i n in omega arith)

  pub slice_get-table : (f : ℕ → X) (n k : ℕ) → k < n → slice_get (tabulate f 0 n) k ≡ Some (f k)
  slice_get-table f n k lt = let e : 0 + k ≡ k = omega arith in slice_get-tabulate f 0 n k lt ∙ ap (λ (q : ℕ). Some (f q)) e

  pub get_or-table : (f : ℕ → X) (n k : ℕ) (d : X) → k < n → get_or (tabulate f 0 n) k d ≡ f k
  get_or-table f n k d lt = let e : 0 + k ≡ k = omega arith in get_or-tabulate f 0 n k d lt ∙ ap f e

  -- a test of each value in turn
  pub all_goes_on : (p : X → Bool) (f : ℕ → X) (n k : ℕ) (total : Bool) → k < n → p (f k) ≡ true
      → list_all p (tabulate f k (n - k)) ≡ total → list_all p (tabulate f (k + 1) (n - (k + 1))) ≡ total
  unfolding tabulate
  all_goes_on p f n k total lt h so_far =
      let e : n - k ≡ suc (n - (k + 1)) = omega arith in
      let one : list_all p (tabulate f k (n - k)) ≡ list_all p (tabulate f (k + 1) (n - (k + 1))) = rw (e, h) refl in
      sym one ∙ so_far

  pub all_fails : (p : X → Bool) (f : ℕ → X) (n k : ℕ) (total : Bool) → k < n → p (f k) ≡ false
      → list_all p (tabulate f k (n - k)) ≡ total → false ≡ total
  unfolding tabulate
  all_fails p f n k total lt h so_far =
      let e : n - k ≡ suc (n - (k + 1)) = omega arith in
      let one : list_all p (tabulate f k (n - k)) ≡ false = rw (e, h) refl in
      sym one ∙ so_far

  pub all_done : (p : X → Bool) (f : ℕ → X) (n k : ℕ) (total : Bool) → n ≤ k
      → list_all p (tabulate f k (n - k)) ≡ total → true ≡ total
  unfolding tabulate
  all_done p f n k total le so_far =
      let e : n - k ≡ 0 = omega arith in
      let one : list_all p (tabulate f k (n - k)) ≡ true = rw e refl in
      sym one ∙ so_far

  -- the first value that passes a test
  pub find_goes_on : (p : X → Bool) (f : ℕ → X) (n k : ℕ) → k < n → p (f k) ≡ false
      → find p (tabulate f k (n - k)) ≡ find p (tabulate f (k + 1) (n - (k + 1)))
  unfolding tabulate
  find_goes_on p f n k lt h = let e : n - k ≡ suc (n - (k + 1)) = omega arith in rw (e, h) refl

  pub find_here : (p : X → Bool) (f : ℕ → X) (n k : ℕ) → k < n → p (f k) ≡ true → find p (tabulate f k (n - k)) ≡ Some (f k)
  unfolding tabulate
  find_here p f n k lt h = let e : n - k ≡ suc (n - (k + 1)) = omega arith in rw (e, h) refl

  pub find_none : (p : X → Bool) (f : ℕ → X) (n k : ℕ) → n ≤ k → find p (tabulate f k (n - k)) ≡ None
  unfolding tabulate
  find_none p f n k le = let e : n - k ≡ 0 = omega arith in rw e refl

  -- a list that is a table
  pub table_length : (f : ℕ → X) (n : ℕ) (xs : List X) → xs ≡ tabulate f 0 n → length xs ≡ n
  table_length f n xs h = ap (λ (ys : List X). length ys) h ∙ length-tabulate f 0 n

  pub table_items : (f : ℕ → X) (n : ℕ) (xs : List X) → xs ≡ tabulate f 0 n → (k : ℕ) (d : X) → k < length xs → get_or xs k d ≡ f k
  table_items f n xs h k d lt =
      let len = table_length f n xs h in
      ap (λ (ys : List X). get_or ys k d) h ∙ get_or-table f n k d (omega arith)

-- a list of the values of a function is the table of them
pub tabulate-each : (f : ℕ → ℕ) (xs : List ℕ) (i : ℕ) → ((k : ℕ) → k < length xs → get_or xs k 0 ≡ f (i + k)) → xs ≡ tabulate f i (length xs)
unfolding tabulate
tabulate-each f [] i each = refl
tabulate-each f (x ∷ xs) i each =
    let here : x ≡ f i = let e : i + 0 ≡ i = omega arith in each 0 (omega arith) ∙ ap f e in
    let rest : xs ≡ tabulate f (i + 1) (length xs) =
    tabulate-each f xs (i + 1) (λ k h. let e : i + suc k ≡ i + 1 + k = omega arith in each (suc k) (omega arith) ∙ ap f e) in
    ap (λ (y : ℕ). y ∷ xs) here ∙ ap (λ (ys : List ℕ). f i ∷ ys) rest
