-- The places of a table's names, one behind the other; and a name among those of two tables.
use Rattle.std.proofs.Common.{◌≡◌, ℕ, zero, suc, ◌+◌, ◌<◌, ◌≤◌, Bool, true, false, List, [], ◌∷◌, ◌++◌, Some, None, length, get_or, refl, sym, ap, ◌∙◌, arith, append_assoc}
use Rattle.std.proofs.lemmas.List.{append-nil, length-append, map-append}
use Rattle.o2_ne.specs.declared.names.Name.{Name}
use Rattle.o2_ne.specs.NameOrder.{IsIndex, name_in, names_in, places_from}
use Rattle.o2_ne.specs.NameTable.{ordinal_of, same_name}
use Rattle.o2_ne.specs.Words.{byte_at}
use Rattle.o2_ne.proofs.NameIndex.{Rise}

pub length_places : (file : List ℕ) (p n : ℕ) → length (places_from file p n) ≡ n
unfolding places_from
length_places file p zero = refl
length_places file p (suc n) = ap suc (length_places file (p + 1 + byte_at file p + 2) n)

-- each place is at the first or behind it
at_least : (file : List ℕ) (p n k : ℕ) → k < n → p ≤ get_or (places_from file p n) k 0
unfolding places_from
at_least file p zero k lt = absurd (omega arith)
at_least file p (suc n) zero lt = omega arith
at_least file p (suc n) (suc k) lt =
    let le = at_least file (p + 1 + byte_at file p + 2) n k (omega arith) in
    omega arith

-- they rise
pub rise : (file : List ℕ) (p n i j : ℕ) → i < j → j < n → get_or (places_from file p n) i 0 < get_or (places_from file p n) j 0
unfolding places_from
rise file p zero i j lt below = absurd (omega arith)
rise file p (suc n) i zero lt below = absurd (omega arith)
rise file p (suc n) zero (suc j) lt below =
    let le = at_least file (p + 1 + byte_at file p + 2) n j (omega arith) in
    omega arith
rise file p (suc n) (suc i) (suc j) lt below = rise file (p + 1 + byte_at file p + 2) n i j (omega arith) (omega arith)

pub places_rise : (file : List ℕ) (p n : ℕ) → Rise (places_from file p n)
places_rise file p n i j lt below = rise file p n i j lt (let e = length_places file p n in omega arith)

-- a table without names
pub no_names : (file : List ℕ) (p : ℕ) (order : List ℕ) → order ≡ [] → names_in file (places_from file p (length order)) ≡ []
unfolding places_from
no_names file p order e = rw e refl

pub no_index : (file : List ℕ) (p : ℕ) (order : List ℕ) → order ≡ [] → IsIndex file (places_from file p (length order)) order
unfolding places_from
no_index file p order e = rw e (record { each = λ passes. refl; sorted = λ k d le lt. absurd (omega arith) })

-- one name more
pub names_push : (file : List ℕ) (places : List ℕ) (p : ℕ) → names_in file (places ++ p ∷ []) ≡ names_in file places ++ name_in file p ∷ []
names_push file places p = map-append (name_in file) places (p ∷ [])

-- one place more
pub walks_on : (file places : List ℕ) (at p next : ℕ) → next ≡ p + 1 + byte_at file p + 2
    → ((n : ℕ) → places ++ places_from file p n ≡ places_from file at (length places + n))
    → (n : ℕ) → (places ++ p ∷ []) ++ places_from file next n ≡ places_from file at (length (places ++ p ∷ []) + n)
unfolding places_from
walks_on file places at p next is so_far n =
    let len : length places + suc n ≡ length (places ++ p ∷ []) + n = (let e = length-append places (p ∷ []) in omega arith) in
    append_assoc places (p ∷ []) (places_from file next n)
    ∙ ap (λ (q : ℕ). places ++ p ∷ places_from file q n) is
    ∙ so_far (suc n)
    ∙ ap (λ (m : ℕ). places_from file at m) len

-- what a walk found, from its first place on
pub walked_from : (file places : List ℕ) (at p : ℕ) → ((n : ℕ) → places ++ places_from file p n ≡ places_from file at (length places + n))
    → places_from file at (length places) ≡ places
unfolding places_from
walked_from file places at p so_far =
    let len : length places + 0 ≡ length places = omega arith in
    sym (ap (λ (m : ℕ). places_from file at m) len) ∙ sym (so_far 0) ∙ append-nil places

-- a name among those of two tables
pub first_table : (name : List ℕ) (xs ys : List Name) (n : ℕ) → ordinal_of name xs ≡ Some n → ordinal_of name (xs ++ ys) ≡ Some n
first_table name [] ys n h = absurd cc
first_table name (x ∷ xs) ys n h = go (same_name x.text name) refl (λ e. first_table name xs ys n e)
  where
    go : (b : Bool) → same_name x.text name ≡ b → (ordinal_of name xs ≡ Some n → ordinal_of name (xs ++ ys) ≡ Some n) → ordinal_of name (x ∷ (xs ++ ys)) ≡ Some n
    go true e more = let here = rw e at h in rw e here
    go false e more = let there = rw e at h in rw e (more there)

pub second_table : (name : List ℕ) (xs ys : List Name) → ordinal_of name xs ≡ None → ordinal_of name (xs ++ ys) ≡ ordinal_of name ys
second_table name [] ys h = refl
second_table name (x ∷ xs) ys h = go (same_name x.text name) refl (λ e. second_table name xs ys e)
  where
    go : (b : Bool) → same_name x.text name ≡ b → (ordinal_of name xs ≡ None → ordinal_of name (xs ++ ys) ≡ ordinal_of name ys) → ordinal_of name (x ∷ (xs ++ ys)) ≡ ordinal_of name ys
    go true e more = absurd (let bad = rw e at h in cc)
    go false e more = let there = rw e at h in rw e (more there)
