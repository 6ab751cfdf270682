-- The marks of reached libraries, round by round.
use Rattle.std.proofs.Common.{◌≡◌, ℕ, zero, suc, ◌+◌, ◌<◌, ◌≤◌, ◌&&◌, ◌||◌, Bool, true, false, List, [], ◌∷◌, ◌++◌, Option, drop, get_or, length, map, refl, sym, ap, ◌∙◌, add-one, arith, append_assoc, append-nil}
use Rattle.std.specs.List.{list_any}
use Rattle.std.proofs.lemmas.List.{drop_all, length-map}
use Rattle.std.proofs.lemmas.Option.{get_or_from_slice_get}
use Rattle.o2_image.specs.Getters.{nth_list}
use Rattle.o2_image.specs.Parts.{Parts}
use Rattle.o2_dynlink.specs.Marks.{both_any, next_marks}
use Rattle.o2_dynlink.specs.Reached.{reaches, refers}
use Rattle.o2_dynlink.proofs.Items.{rest_from}
use Rattle.o2_dynlink.proofs.Rows.{list_there}

both_maps : {A : Type 0} (p q : A → Bool) (xs : List A) → both_any (map p xs) (map q xs) ≡ list_any (λ x. p x && q x) xs
both_maps p q [] = refl
both_maps p q (x ∷ xs) = ap (λ (b : Bool). p x && q x || b) (both_maps p q xs)

next_maps : {A B : Type 0} (p : B → Bool) (q : A → B → Bool) (r : A → Bool) (ms : List A) (ls : List B)
    → next_marks (map p ls) (map (λ l. map (λ m. q m l) ms) ls) (map r ms) ≡ map (λ l. p l || list_any (λ m. r m && q m l) ms) ls
next_maps p q r ms [] = refl
next_maps p q r ms (l ∷ ls) = rw (both_maps r (λ m. q m l) ms, next_maps p q r ms ls) refl

-- one round more
pub next_round : (shim : Option (List ℕ)) (ms : List Parts) (n : ℕ) (m : Parts) (first marks next : List Bool) (columns : List (List Bool))
    → first ≡ map (refers shim m) ms → columns ≡ map (λ l. map (λ k. refers shim k l) ms) ms → marks ≡ map (reaches shim ms n m) ms → next ≡ next_marks first columns marks
    → next ≡ map (reaches shim ms (n + 1) m) ms
next_round shim ms n m first marks next columns f c s h =
    let one : n + 1 ≡ suc n = add-one n in
    let all : next_marks first columns marks ≡ map (reaches shim ms (suc n) m) ms = rw (f, c, s) (next_maps (refers shim m) (refers shim) (reaches shim ms n m) ms ms) in
    h ∙ (rw one all)

both_nil : (a : List Bool) → both_any a [] ≡ false
both_nil [] = refl
both_nil (x ∷ a) = refl

and_no : (b : Bool) → (b && false) ≡ false
and_no true = refl
and_no false = refl

both_from : (a b : List Bool) (i : ℕ) → i < length a → both_any (drop i a) (drop i b) ≡ (get_or a i false && get_or b i false || both_any (drop (i + 1) a) (drop (i + 1) b))
both_from [] b i lt = absurd (omega arith)
both_from (x ∷ a) [] zero lt = rw (and_no x, both_nil a) refl
both_from (x ∷ a) (y ∷ b) zero lt = refl
both_from (x ∷ a) [] (suc i) lt =
    let n : suc i + 1 ≡ suc (i + 1) = omega arith in
    rw (and_no (get_or a i false), n, both_nil (drop i a), both_nil (drop (i + 1) a)) refl
both_from (x ∷ a) (y ∷ b) (suc i) lt =
    let n : suc i + 1 ≡ suc (i + 1) = omega arith in
    rw n (both_from a b i (omega arith))

pub both_goes_on : (a b : List Bool) (i : ℕ) (v total : Bool) → i < length a → v ≡ (get_or a i false && get_or b i false) → v ≡ false
    → both_any (drop i a) (drop i b) ≡ total → both_any (drop (i + 1) a) (drop (i + 1) b) ≡ total
both_goes_on a b i v total lt tested fails h =
    let none : (get_or a i false && get_or b i false) ≡ false = sym tested ∙ fails in
    rw (both_from a b i lt, none) at h

pub both_here : (a b : List Bool) (i : ℕ) (v total : Bool) → i < length a → v ≡ (get_or a i false && get_or b i false) → v ≡ true
    → both_any (drop i a) (drop i b) ≡ total → true ≡ total
both_here a b i v total lt tested passes h =
    let some : (get_or a i false && get_or b i false) ≡ true = sym tested ∙ passes in
    rw (both_from a b i lt, some) at h

pub both_none : (a b : List Bool) (i : ℕ) (total : Bool) → length a ≤ i → both_any (drop i a) (drop i b) ≡ total → false ≡ total
both_none a b i total le h = rw (drop_all i a le) at h

module _ {V : Type 0} (g : V → List Bool) where
  -- one mark more
  pub next_more : (first : List Bool) (columns : List V) (marks so_far new total : List Bool) (i : ℕ) (v : Bool) → i < length first → length first ≡ length columns
      → v ≡ (get_or first i false || both_any marks (nth_list (map g columns) (i + 1))) → new ≡ so_far ++ v ∷ []
      → so_far ++ next_marks (drop i first) (drop i (map g columns)) marks ≡ total → new ++ next_marks (drop (i + 1) first) (drop (i + 1) (map g columns)) marks ≡ total
  next_more first columns marks so_far new total i v lt same is pushed h =
      let lt' : i < length (map g columns) = omega (arith, same, length-map columns g) in
      let there = list_there (map g columns) i lt' in
      let column : nth_list (map g columns) (i + 1) ≡ get_or (map g columns) i [] = sym (get_or_from_slice_get (map g columns) i (nth_list (map g columns) (i + 1)) [] there) in
      let a : drop i first ≡ get_or first i false ∷ drop (i + 1) first = rest_from first i (get_or first i false) false lt refl in
      let b : drop i (map g columns) ≡ nth_list (map g columns) (i + 1) ∷ drop (i + 1) (map g columns) = rest_from (map g columns) i (nth_list (map g columns) (i + 1)) [] lt' column in
      let rest : List Bool = next_marks (drop (i + 1) first) (drop (i + 1) (map g columns)) marks in
      let one : next_marks (drop i first) (drop i (map g columns)) marks ≡ v ∷ rest = rw (a, b, is) refl in
      ap (λ (z : List Bool). z ++ rest) pushed ∙ append_assoc so_far (v ∷ []) rest ∙ sym (ap (λ (z : List Bool). so_far ++ z) one) ∙ h

-- no column is left
pub next_done : (first so_far total : List Bool) (columns : List (List Bool)) (marks : List Bool) (i : ℕ) → length first ≤ i
    → so_far ++ next_marks (drop i first) (drop i columns) marks ≡ total → so_far ≡ total
next_done first so_far total columns marks i le h =
    let none : next_marks (drop i first) (drop i columns) marks ≡ [] = rw (drop_all i first le) refl in
    sym (append-nil so_far) ∙ ap (λ (z : List Bool). so_far ++ z) (sym none) ∙ h
