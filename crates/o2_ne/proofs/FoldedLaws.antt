-- The comparison of two texts, byte by byte, with ASCII letters folded.
use Rattle.std.proofs.Common.{◌≡◌, ◌≢◌, ℕ, suc, ◌+◌, ◌<◌, ◌≤◌, ◌==◌, Bool, true, false, List, [], ◌∷◌, length, get_or, drop, refl, sym, ◌∙◌, arith, add-one, inl, inr, ◌⊎◌}
use Rattle.std.specs.Prelude.{nat_lt, min}
use Rattle.std.specs.Char.{to_ascii_lowercase}
use Rattle.std.specs.declared.cmp.Ordering.{Ordering}
use Rattle.std.specs.declared.cmp.Ordering.TheVariants.{Less, Equal, Greater}
use Rattle.std.specs.Ordering.{nat_cmp, ordering_then}
use Rattle.std.specs.Cmp.Lexicographic.{slice_cmp}
use Rattle.std.proofs.Math.Seq.{drop-cons}
use Rattle.std.proofs.lemmas.List.{length-drop}
use Rattle.std.proofs.lemmas.Bool.{ne_eqb, eq-eqb, lt-ltb, le-ltb, ltb-true, ltb-false}
use Rattle.o2_ne.specs.NameOrder.{folded}

pub nat_cmp_less : (x y : ℕ) → x < y → nat_cmp x y ≡ Less
nat_cmp_less x y lt = let e : nat_lt x y ≡ true = lt-ltb x y lt in rw e refl

pub nat_cmp_same : (x y : ℕ) → x ≡ y → nat_cmp x y ≡ Equal
nat_cmp_same x y h =
    let e : nat_lt x y ≡ false = le-ltb x y (omega arith) in
    let q : (x == y) ≡ true = eq-eqb x y h in
    rw (e, q) refl

pub nat_cmp_more : (x y : ℕ) → y < x → nat_cmp x y ≡ Greater
nat_cmp_more x y lt =
    let e : nat_lt x y ≡ false = le-ltb x y (omega arith) in
    let q : (x == y) ≡ false = ne_eqb x y (omega arith) in
    rw (e, q) refl

apart : (x y : ℕ) (r : Ordering) → x ≢ y → ordering_then (nat_cmp x y) r ≡ nat_cmp x y
apart x y r ne = go (nat_lt x y) refl
  where
    q : (x == y) ≡ false
    q = ne_eqb x y ne

    go : (b : Bool) → nat_lt x y ≡ b → ordering_then (nat_cmp x y) r ≡ nat_cmp x y
    go true e = rw e refl
    go false e = rw (e, q) refl

abbrev pub compared : List ℕ → List ℕ → Ordering
compared xs ys = slice_cmp nat_cmp (folded xs) (folded ys)

-- two bytes that are the same
pub same_byte : (xs ys : List ℕ) (i : ℕ) (total : Ordering) → i < length xs → i < length ys
    → to_ascii_lowercase (get_or xs i 0) ≡ to_ascii_lowercase (get_or ys i 0)
    → compared (drop i xs) (drop i ys) ≡ total → compared (drop (i + 1) xs) (drop (i + 1) ys) ≡ total
same_byte xs ys i total lx ly h so_far =
    let e : nat_cmp (to_ascii_lowercase (get_or xs i 0)) (to_ascii_lowercase (get_or ys i 0)) ≡ Equal = nat_cmp_same _ _ h in
    let one : compared (drop i xs) (drop i ys) ≡ compared (drop (i + 1) xs) (drop (i + 1) ys) =
    rw (drop-cons xs i 0 lx, drop-cons ys i 0 ly, e, add-one) refl in
    sym one ∙ so_far

-- two bytes that differ decide
pub other_byte : (xs ys : List ℕ) (i : ℕ) (total : Ordering) → i < length xs → i < length ys
    → to_ascii_lowercase (get_or xs i 0) ≢ to_ascii_lowercase (get_or ys i 0)
    → compared (drop i xs) (drop i ys) ≡ total → nat_cmp (to_ascii_lowercase (get_or xs i 0)) (to_ascii_lowercase (get_or ys i 0)) ≡ total
other_byte xs ys i total lx ly ne so_far =
    let one : compared (drop i xs) (drop i ys) ≡ ordering_then (nat_cmp (to_ascii_lowercase (get_or xs i 0)) (to_ascii_lowercase (get_or ys i 0))) (compared (drop (suc i) xs) (drop (suc i) ys)) =
    rw (drop-cons xs i 0 lx, drop-cons ys i 0 ly) refl in
    sym (apart _ _ _ ne) ∙ sym one ∙ so_far

over_by : (xs ys : List ℕ) (n m : ℕ) → (k : ℕ) → n ≡ k + length xs → m ≡ k + length ys → (k ≡ n) ⊎ (k ≡ m) → compared xs ys ≡ nat_cmp n m
over_by [] [] n m k en em e = sym (nat_cmp_same n m (omega arith))
over_by [] (y ∷ ys) n m k en em e = sym (nat_cmp_less n m (omega arith))
over_by (x ∷ xs) [] n m k en em e = sym (nat_cmp_more n m (omega arith))
over_by (x ∷ xs) (y ∷ ys) n m k en em e = absurd (elim e [ inl h ↦ omega arith | inr h ↦ omega arith ])

-- where one text is over
pub one_over : (xs ys : List ℕ) (i : ℕ) (total : Ordering) → i ≤ length xs → i ≤ length ys → (i ≡ length xs) ⊎ (i ≡ length ys)
    → compared (drop i xs) (drop i ys) ≡ total → nat_cmp (length xs) (length ys) ≡ total
one_over xs ys i total lx ly e so_far =
    let a = length-drop i xs in
    let b = length-drop i ys in
    sym (over_by (drop i xs) (drop i ys) (length xs) (length ys) i (omega arith) (omega arith) e) ∙ so_far

-- the shorter text is over
pub both_over : (xs ys : List ℕ) (i m : ℕ) (total : Ordering) → i ≤ m → m ≤ i → m ≡ min (length xs) (length ys)
    → compared (drop i xs) (drop i ys) ≡ total → nat_cmp (length xs) (length ys) ≡ total
both_over xs ys i m total low high e so_far = go (nat_lt (length xs) (length ys)) refl
  where
    go : (b : Bool) → nat_lt (length xs) (length ys) ≡ b → nat_cmp (length xs) (length ys) ≡ total
    go true h = let lt = ltb-true (length xs) (length ys) h in one_over xs ys i total (omega arith) (omega arith) (inl (omega arith)) so_far
    go false h = let le = ltb-false (length xs) (length ys) h in one_over xs ys i total (omega arith) (omega arith) (inr (omega arith)) so_far
