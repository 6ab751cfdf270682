-- The order of the places that have a name: what it says of a text, and that it stays one as names come and go.
use Rattle.std.proofs.Common.{◌≡◌, ◌≢◌, ℕ, zero, suc, ◌+◌, ◌-◌, ◌<◌, ◌≤◌, ◌==◌, ◌||◌, ◌⊎◌, inl, inr, Bool, true, false, List, [], ◌∷◌, Option, Some, None, Result, Ok}
use Rattle.std.proofs.Common.{Err, IsSome, length, get_or, set, replicate, eqb, refl, sym, ap, ◌∙◌, subst, arith}
use Rattle.std.specs.List.{insert, list_any, remove}
use Rattle.std.specs.List.Sorted.{IsBinarySearchResult, IsNonDecreasingBy, IsSearchInRange}
use Rattle.std.specs.Ordering.{nat_cmp, ordering_index, ordering_reverse}
use Rattle.std.specs.Cmp.Lexicographic.{slice_cmp}
use Rattle.std.specs.FinMap.{nat_cmp-IsAntisymmetric, slice_cmp-IsAntisymmetric}
use Rattle.std.specs.declared.cmp.Ordering.{Ordering}
use Rattle.std.specs.declared.cmp.Ordering.TheVariants.{Less, Equal, Greater}
use Rattle.std.proofs.Math.Bool.{or-true}
use Rattle.std.proofs.lemmas.Bool.{cases_eq, cases_lt, eq-eqb, eqb-true, ne_eqb}
use Rattle.std.proofs.lemmas.Cmp.{alike_right, nat_list_cmp_total, tied_itself}
use Rattle.std.proofs.lemmas.List.{get_or-set_other, get_or-set_same, get_or_default, get_or_past}
use Rattle.std.proofs.lemmas.List.Edits.{get_or-insert_above, get_or-insert_at, get_or-insert_below, get_or-remove_above, get_or-remove_below, length-insert, length-remove}
use Rattle.std.proofs.lemmas.List.Sorted.{IsNonDecreasingBy-from_default, IsPermutation-insert, IsPermutation-remove, list_any-IsPermutation}
use Rattle.std.proofs.lemmas.Map.Keys.{IsDistinct-from_apart}
use Rattle.std.proofs.lemmas.Map.Steps.{length-le_from_distinct_below}
use Rattle.o2_regions.proofs.Writes.{get_or-same}
use Rattle.o2_shared.specs.declared.names.Name.{Name}
use Rattle.o2_shared.specs.NameOrder.{HasText, IsAt, IsFoundAt, IsGap, IsOrdered, LacksText, against, name_at, place_at}
use Rattle.o2_shared.specs.Texts.{AreDistinct}

-- Texts that are compared.

same_by : (t u : List ℕ) → slice_cmp nat_cmp t u ≡ Equal → t ≡ u
same_by t u e = slice_cmp-IsAntisymmetric nat_cmp-IsAntisymmetric t u e

itself : (t u : List ℕ) → t ≡ u → slice_cmp nat_cmp t u ≡ Equal
itself t u e = ap (λ (x : List ℕ). slice_cmp nat_cmp x u) e ∙ tied_itself nat_list_cmp_total u

below_other : (t u : List ℕ) → slice_cmp nat_cmp t u ≡ Less → t ≡ u → ⊥
below_other t u less same = let z : Less ≡ Equal = sym less ∙ itself t u same in cc

above_other : (t u : List ℕ) → slice_cmp nat_cmp t u ≡ Greater → t ≡ u → ⊥
above_other t u more same = let z : Greater ≡ Equal = sym more ∙ itself t u same in cc

back : (t u : List ℕ) → slice_cmp nat_cmp t u ≡ Greater → slice_cmp nat_cmp u t ≡ Less
back t u e = nat_list_cmp_total.antisymm u t ∙ ap ordering_reverse e

-- a text that is below another one stands below any text or so as the other one
index_rises : (t u x : List ℕ) → slice_cmp nat_cmp t u ≡ Less → ordering_index (slice_cmp nat_cmp t x) ≤ ordering_index (slice_cmp nat_cmp u x)
index_rises t u x less = go (slice_cmp nat_cmp u x) refl
  where
    at_least : (r : Ordering) → 0 ≤ ordering_index r
    at_least r = omega arith

    at_most : (r : Ordering) → ordering_index r ≤ 2
    at_most Less = omega arith
    at_most Equal = omega arith
    at_most Greater = omega arith

    go : (r : Ordering) → slice_cmp nat_cmp u x ≡ r → ordering_index (slice_cmp nat_cmp t x) ≤ ordering_index (slice_cmp nat_cmp u x)
    go Less e = subst (λ (r : Ordering). ordering_index r ≤ ordering_index (slice_cmp nat_cmp u x)) (sym (nat_list_cmp_total.trans t u x less e)) (at_least (slice_cmp nat_cmp u x))
    go Equal e = subst (λ (r : Ordering). ordering_index r ≤ ordering_index (slice_cmp nat_cmp u x)) (sym (sym (alike_right nat_list_cmp_total u x t e) ∙ less)) (at_least (slice_cmp nat_cmp u x))
    go Greater e = subst (λ (r : Ordering). ordering_index (slice_cmp nat_cmp t x) ≤ ordering_index r) (sym e) (at_most (slice_cmp nat_cmp t x))

-- Names and places.

some_is : (o : Option Name) → IsSome o → (k : Name) × (o ≡ Some k)
some_is None e = absurd (cc)
some_is (Some k) e = (k, refl)

index_of : (test : ℕ → Bool) (xs : List ℕ) → list_any test xs ≡ true → (i : ℕ) × (i < length xs) × (test (get_or xs i 0) ≡ true)
index_of test [] e = absurd (cc)
index_of test (x ∷ xs) e = go (test x) refl e (index_of test xs)
  where
    go : (b : Bool) → test x ≡ b → (b || list_any test xs) ≡ true → (list_any test xs ≡ true → (i : ℕ) × (i < length xs) × (test (get_or xs i 0) ≡ true)) → (i : ℕ) × (i < length (x ∷ xs)) × (test (get_or (x ∷ xs) i 0) ≡ true)
    go true is e rest = (0, omega arith, is)
    go false is e rest = let r = rest e in (suc r.0, (let l = r.1 in omega (arith, l)), r.2)

pub within_names : (names : List (Option Name)) (place : ℕ) (k : Name) → name_at names place ≡ Some k → place < length names
within_names names place k e = go (cases_lt place (length names))
  where
    go : (place < length names) ⊎ (length names ≤ place) → place < length names
    go (inl l) = l
    go (inr l) = absurd (let z : ◌≡◌ {A = Option Name} None (Some k) = sym (get_or_past names place None l) ∙ e in cc)

none_set : (names : List (Option Name)) (place : ℕ) → name_at (set names place None) place ≡ None
none_set [] place = refl
none_set (o ∷ os) zero = refl
none_set (o ∷ os) (suc place) = none_set os place

-- what is there where a name was taken away was there before, at another place
pub still_there : (names : List (Option Name)) (gone place : ℕ) (k : Name) → name_at (set names gone None) place ≡ Some k → (place ≢ gone) × (name_at names place ≡ Some k)
still_there names gone place k e = go (cases_eq place gone)
  where
    go : (place ≡ gone) ⊎ (place ≡ gone → ⊥) → (place ≢ gone) × (name_at names place ≡ Some k)
    go (inl is) = absurd (let z : ◌≡◌ {A = Option Name} None (Some k) = sym (ap (name_at (set names gone None)) is ∙ none_set names gone) ∙ e in cc)
    go (inr isnt) = (isnt, sym (get_or-set_other names gone place None None isnt) ∙ e)

-- What stands at a place of an order from which one was taken: that which was there, or the next one.

data Left (order : List ℕ) (at i : ℕ) : Type 0 where
  Same : i < at → i < length order → place_at (remove order at) i ≡ place_at order i → Left order at i
  Next : at ≤ i → i + 1 < length order → place_at (remove order at) i ≡ place_at order (i + 1) → Left order at i

left_at : (order : List ℕ) (at i : ℕ) → at < length order → i < length (remove order at) → Left order at i
left_at order at i within l = go (cases_lt i at)
  where
    go : (i < at) ⊎ (at ≤ i) → Left order at i
    go (inl m) = Same m (omega arith) (get_or-remove_below order at 0 i m within)
    go (inr m) = Next m (let n = length-remove order at within in omega (arith, n)) (get_or-remove_above order at 0 i m within)

-- What stands at a place of an order to which one was added: that which was there, the new one, or that before.

data Stands (order : List ℕ) (at place i : ℕ) : Type 0 where
  Front : i < at → i < length order → place_at (insert order at place) i ≡ place_at order i → Stands order at place i
  Here : i ≡ at → place_at (insert order at place) i ≡ place → Stands order at place i
  Behind : (j : ℕ) → i ≡ j + 1 → at ≤ j → j < length order → place_at (insert order at place) i ≡ place_at order j → Stands order at place i

stands : (order : List ℕ) (at place i : ℕ) → at ≤ length order → i < length (insert order at place) → Stands order at place i
stands order at place i within l = go (cases_lt i at) (cases_lt at i)
  where
    go : (i < at) ⊎ (at ≤ i) → (at < i) ⊎ (i ≤ at) → Stands order at place i
    go (inl m) n = Front m (omega arith) (get_or-insert_below order at place 0 i m within)
    go (inr m) (inl n) =
        let e : i ≡ (i - 1) + 1 = omega (arith, n) in
        let long = length-insert order at place within in
        Behind (i - 1) e (omega (arith, n)) (omega (arith, n, long)) (ap (place_at (insert order at place)) e ∙ get_or-insert_above order at place 0 (i - 1) (omega (arith, n)) within)
    go (inr m) (inr n) =
        let e : i ≡ at = omega (arith, m, n) in
        Here e (ap (place_at (insert order at place)) e ∙ get_or-insert_at order at place 0 within)

-- No names.

pub no_names : (n : ℕ) → IsOrdered (replicate n None) []
no_names n = record {
  named = λ i l. absurd (omega arith);
  rising = λ i j k l less within a b. absurd (omega arith);
  listed = λ place k e. absurd (nobody place k e);
  short = λ place k e. absurd (nobody place k e);
}
  where
    nobody : (place : ℕ) (k : Name) → name_at (replicate n None) place ≡ Some k → ⊥
    nobody place k e = let z : ◌≡◌ {A = Option Name} None (Some k) = sym (get_or-same n place None) ∙ e in cc

module _ (names : List (Option Name)) (order : List ℕ) (o : IsOrdered names order) where
  at_rank : (place : ℕ) (k : Name) → name_at names place ≡ Some k → (i : ℕ) × (i < length order) × (place_at order i ≡ place)
  at_rank place k e = let r = index_of (λ (p : ℕ). p == place) order (o.listed place k e) in (r.0, r.1, eqb-true (place_at order r.0) place r.2)

  apart : (i j : ℕ) → i < j → j < length order → place_at order i ≡ place_at order j → ⊥
  apart i j less within same =
      let k = some_is (name_at names (place_at order j)) (o.named j within) in
      below_other k.0.text k.0.text (o.rising i j k.0 k.0 less within (ap (name_at names) same ∙ k.1) k.1) refl

  one_rank : (i j : ℕ) → i < length order → j < length order → place_at order i ≡ place_at order j → i ≡ j
  one_rank i j a b same = go (cases_lt i j) (cases_lt j i)
    where
      go : (i < j) ⊎ (j ≤ i) → (j < i) ⊎ (i ≤ j) → i ≡ j
      go (inl l) m = absurd (apart i j l b same)
      go (inr l) (inl m) = absurd (apart j i m a (sym same))
      go (inr l) (inr m) = omega arith

  -- No text stands twice.
  pub distinct : AreDistinct names
  distinct = record { once = λ place other k l a b text. go place other k l a b text (at_rank place k a) (at_rank other l b) }
    where
      go : (place other : ℕ) (k l : Name) → name_at names place ≡ Some k → name_at names other ≡ Some l → k.text ≡ l.text → (i : ℕ)
          × (i < length order) × (place_at order i ≡ place) → (j : ℕ) × (j < length order) × (place_at order j ≡ other) → place ≡ other
      go place other k l a b text i j = by_rank (cases_lt i.0 j.0) (cases_lt j.0 i.0)
        where
          here : name_at names (place_at order i.0) ≡ Some k
          here = ap (name_at names) i.2 ∙ a

          there : name_at names (place_at order j.0) ≡ Some l
          there = ap (name_at names) j.2 ∙ b

          by_rank : (i.0 < j.0) ⊎ (j.0 ≤ i.0) → (j.0 < i.0) ⊎ (i.0 ≤ j.0) → place ≡ other
          by_rank (inl less) m = absurd (below_other k.text l.text (o.rising i.0 j.0 k l less j.1 here there) text)
          by_rank (inr le) (inl less) = absurd (below_other l.text k.text (o.rising j.0 i.0 l k less i.1 there here) (sym text))
          by_rank (inr le) (inr ge) = sym i.2 ∙ ap (place_at order) (let e : i.0 ≡ j.0 = omega (arith, le, ge) in e) ∙ j.2

  -- A search by a text.

  rises : (text : List ℕ) → IsNonDecreasingBy (λ (y : ℕ). ordering_index (against (name_at names y) text)) order
  rises text = IsNonDecreasingBy-from_default (λ (y : ℕ). ordering_index (against (name_at names y) text)) order 0 (λ i j le within. go i j within (cases_lt i j) le)
    where
      by_names : (i j : ℕ) (k l : Name) → i < j → j < length order → name_at names (place_at order i) ≡ Some k
          → name_at names (place_at order j) ≡ Some l → ordering_index (against (name_at names (place_at order i)) text) ≤ ordering_index
          (against (name_at names (place_at order j)) text)
      by_names i j k l less within a b =
          subst (λ (x : Option Name). ordering_index (against x text) ≤ ordering_index (against (name_at names (place_at order j)) text)) (sym a)
          (subst (λ (x : Option Name). ordering_index (slice_cmp nat_cmp k.text text) ≤ ordering_index (against x text)) (sym b) (index_rises k.text l.text text (o.rising i j k l less within a b)))

      go : (i j : ℕ) → j < length order → (i < j) ⊎ (j ≤ i) → i ≤ j → ordering_index (against (name_at names (place_at order i)) text) ≤ ordering_index (against (name_at names (place_at order j)) text)
      go i j within (inl less) le =
          let k = some_is (name_at names (place_at order i)) (o.named i (omega arith)) in
          let l = some_is (name_at names (place_at order j)) (o.named j within) in
          by_names i j k.0 l.0 less within k.1 l.1
      go i j within (inr ge) le =
          let e : i ≡ j = omega arith in
          let n = ordering_index (against (name_at names (place_at order i)) text) in
          subst (λ (x : ℕ). n ≤ ordering_index (against (name_at names (place_at order x)) text)) e (omega arith)

  pub found_at : (text : List ℕ) (r : Result ℕ ℕ) → IsSearchInRange r (length order) → IsBinarySearchResult (λ (y : ℕ). against (name_at names y) text) order r → IsFoundAt names order text r
  found_at text (Ok at) within is = record { within = within; equal = is 0 }
  found_at text (Err at) within is =
      let parts = is (rises text) in
      record { within = within; below = λ i l. parts.0 i 0 (omega arith) l; above = λ i l m. parts.1 i 0 l m }

  -- the name there is of that text
  pub name_there : (text : List ℕ) (at : ℕ) → IsAt names order text at → HasText names text (place_at order at)
  name_there text at is = go (name_at names (place_at order at)) refl is.equal
    where
      go : (x : Option Name) → name_at names (place_at order at) ≡ x → against x text ≡ Equal → HasText names text (place_at order at)
      go None e f = absurd (cc)
      go (Some k) e f = record { name = k; there = e; same = same_by k.text text f }

  -- none has the text
  pub nobody_there : (text : List ℕ) (at : ℕ) → IsGap names order text at → LacksText names text
  nobody_there text at gap = record { other = λ place k e same. by_rank place k e same (at_rank place k e) }
    where
      by_rank : (place : ℕ) (k : Name) → name_at names place ≡ Some k → k.text ≡ text → (i : ℕ) × (i < length order) × (place_at order i ≡ place) → ⊥
      by_rank place k e same i = by_side (cases_lt i.0 at)
        where
          here : against (name_at names (place_at order i.0)) text ≡ slice_cmp nat_cmp k.text text
          here = ap (λ (p : ℕ). against (name_at names p) text) i.2 ∙ ap (λ (x : Option Name). against x text) e

          by_side : (i.0 < at) ⊎ (at ≤ i.0) → ⊥
          by_side (inl l) = below_other k.text text (sym here ∙ gap.below i.0 l) same
          by_side (inr l) = above_other k.text text (sym here ∙ gap.above i.0 l i.1) same

  -- a place with a name stands where its text is found
  pub rank_there : (place at : ℕ) (k : Name) → name_at names place ≡ Some k → IsAt names order k.text at → place_at order at ≡ place
  rank_there place at k e is =
      let x = name_there k.text at is in
      distinct.once (place_at order at) place x.name k x.there e x.same

  pub rank_nowhere : (place at : ℕ) (k : Name) → name_at names place ≡ Some k → IsGap names order k.text at → ⊥
  rank_nowhere place at k e gap = (nobody_there k.text at gap).other place k e refl

  pub within_place : (i : ℕ) → i < length order → place_at order i < length names
  within_place i l = let k = some_is (name_at names (place_at order i)) (o.named i l) in within_names names (place_at order i) k.0 k.1

  -- fewer places than there are have a name, where one has none
  pub few : (place : ℕ) → place < length names → name_at names place ≡ None → length order < length names
  few place within free =
      let n = length-le_from_distinct_below (place ∷ order) (length names) (IsDistinct-from_apart eqb (place ∷ order) differ) (λ q e. below q (index_of (eqb q) (place ∷ order) e)) in
      omega (arith, n)
    where
      other : (j : ℕ) → j < length order → place_at order j ≡ place → ⊥
      other j l is =
          let k = some_is (name_at names (place_at order j)) (o.named j l) in
          let z : ◌≡◌ {A = Option Name} None (Some k.0) = sym (ap (name_at names) is ∙ free) ∙ k.1 in
          cc

      differ : (i j d : ℕ) → i < j → j < length (place ∷ order) → eqb (get_or (place ∷ order) i d) (get_or (place ∷ order) j d) ≡ false
      differ i zero d less l = absurd (omega arith)
      differ zero (suc j) d less l = ne_eqb place (get_or order j d) (λ is. other j (omega arith) (get_or_default order j 0 d (omega arith) ∙ sym is))
      differ (suc i) (suc j) d less l =
          ne_eqb (get_or order i d) (get_or order j d) (λ is.
          apart i j (omega arith) (omega arith) (get_or_default order i 0 d (omega arith) ∙ is ∙ get_or_default order j d 0 (omega arith)))

      below : (q : ℕ) → (i : ℕ) × (i < length (place ∷ order)) × (eqb q (get_or (place ∷ order) i 0) ≡ true) → q < length names
      below q i = at_index i.0 i.1 (eqb-true q (get_or (place ∷ order) i.0 0) i.2)
        where
          at_index : (j : ℕ) → j < length (place ∷ order) → q ≡ get_or (place ∷ order) j 0 → q < length names
          at_index zero l e = subst (λ (x : ℕ). x < length names) (sym e) within
          at_index (suc j) l e = subst (λ (x : ℕ). x < length names) (sym e) (within_place j (omega arith))

  -- no text is longer than a name
  pub lacks_long : (text : List ℕ) → 128 < length text → LacksText names text
  lacks_long text long = record { other = λ place k e same. (let l = o.short place k e in omega (arith, l, ap length same, long)) }

  -- A name goes.

  pub taken_out : (at : ℕ) → at < length order → IsOrdered (set names (place_at order at) None) (remove order at)
  taken_out at within = record {
    named = λ i l. named_by i (left_at order at i within l);
    rising = λ i j k l less m a b. rising_by i j k l less (left_at order at i within (omega arith)) (left_at order at j within m) a b;
    listed = λ place k e. listed_by place k (still_there names (place_at order at) place k e);
    short = λ place k e. o.short place k (still_there names (place_at order at) place k e).1;
  }
    where
      old_named : (i j : ℕ) → place_at (remove order at) i ≡ place_at order j → j < length order → (j ≡ at → ⊥) → IsSome (name_at (set names (place_at order at) None) (place_at (remove order at) i))
      old_named i j e l other =
          subst (λ (p : ℕ). IsSome (name_at (set names (place_at order at) None) p)) (sym e)
          (subst (λ (x : Option Name). IsSome x) (sym (get_or-set_other names (place_at order at) (place_at order j) None None (λ same. other (one_rank j at l within same)))) (o.named j l))

      named_by : (i : ℕ) → Left order at i → IsSome (name_at (set names (place_at order at) None) (place_at (remove order at) i))
      named_by i (Same m l e) = old_named i i e l (λ is. omega (arith, is, m))
      named_by i (Next m l e) = old_named i (i + 1) e l (λ is. omega (arith, is, m))

      was : (i j : ℕ) (k : Name) → place_at (remove order at) i ≡ place_at order j → name_at (set names (place_at order at) None) (place_at (remove order at) i) ≡ Some k → name_at names (place_at order j) ≡ Some k
      was i j k e a = (still_there names (place_at order at) (place_at order j) k (ap (name_at (set names (place_at order at) None)) (sym e) ∙ a)).1

      rising_by : (i j : ℕ) (k l : Name) → i < j → Left order at i → Left order at j
          → name_at (set names (place_at order at) None) (place_at (remove order at) i) ≡ Some k
          → name_at (set names (place_at order at) None) (place_at (remove order at) j) ≡ Some l → slice_cmp nat_cmp k.text l.text ≡ Less
      rising_by i j k l less (Same m x e) (Same n y f) a b = o.rising i j k l less y (was i i k e a) (was j j l f b)
      rising_by i j k l less (Same m x e) (Next n y f) a b = o.rising i (j + 1) k l (omega arith) y (was i i k e a) (was j (j + 1) l f b)
      rising_by i j k l less (Next m x e) (Same n y f) a b = absurd (omega arith)
      rising_by i j k l less (Next m x e) (Next n y f) a b = o.rising (i + 1) (j + 1) k l (omega arith) y (was i (i + 1) k e a) (was j (j + 1) l f b)

      listed_by : (place : ℕ) (k : Name) → (place ≢ place_at order at) × (name_at names place ≡ Some k) → list_any (λ (p : ℕ). p == place) (remove order at) ≡ true
      listed_by place k was =
          ap (λ (b : Bool). b || list_any (λ (p : ℕ). p == place) (remove order at)) (sym (ne_eqb (place_at order at) place (λ is. was.0 (sym is))))
          ∙ sym (list_any-IsPermutation (λ (p : ℕ). p == place) order (place_at order at ∷ remove order at) (IsPermutation-remove order at (place_at order at) within (get_or_default order at 0 (place_at order at) within)))
          ∙ o.listed place k was.1

  -- A name comes.

  module _ (at place : ℕ) (new : Name) (within : place < length names) (free : name_at names place ≡ None) (gap : IsGap names order new.text at) (brief : length new.text ≤ 128) where
    here : name_at (set names place (Some new)) place ≡ Some new
    here = get_or-set_same names place (Some new) None within

    -- who has a name behind it is the new one, or had it before
    either : (p : ℕ) (k : Name) → name_at (set names place (Some new)) p ≡ Some k → ((p ≡ place) × (new ≡ k)) ⊎ ((p ≢ place) × (name_at names p ≡ Some k))
    either p k e = go (cases_eq p place)
      where
        go : (p ≡ place) ⊎ (p ≡ place → ⊥) → ((p ≡ place) × (new ≡ k)) ⊎ ((p ≢ place) × (name_at names p ≡ Some k))
        go (inl is) = (let z : Some new ≡ Some k = sym (ap (name_at (set names place (Some new))) is ∙ here) ∙ e in inl (is, let y : new ≡ k = cc in y))
        go (inr isnt) = inr (isnt, sym (get_or-set_other names place p (Some new) None isnt) ∙ e)

    -- an old place has its name
    old : (j : ℕ) → j < length order → name_at (set names place (Some new)) (place_at order j) ≡ name_at names (place_at order j)
    old j l = get_or-set_other names place (place_at order j) (Some new) None (λ is.
        (let k = some_is (name_at names (place_at order j)) (o.named j l) in
        let z : ◌≡◌ {A = Option Name} None (Some k.0) = sym (ap (name_at names) is ∙ free) ∙ k.1 in
        cc))

    old_named : (i j : ℕ) → place_at (insert order at place) i ≡ place_at order j → j < length order → IsSome (name_at (set names place (Some new)) (place_at (insert order at place) i))
    old_named i j e l = subst (λ (p : ℕ). IsSome (name_at (set names place (Some new)) p)) (sym e) (subst (λ (x : Option Name). IsSome x) (sym (old j l)) (o.named j l))

    named_by : (i : ℕ) → Stands order at place i → IsSome (name_at (set names place (Some new)) (place_at (insert order at place) i))
    named_by i (Front m l e) = old_named i i e l
    named_by i (Here is e) = subst (λ (p : ℕ). IsSome (name_at (set names place (Some new)) p)) (sym e) (subst (λ (x : Option Name). IsSome x) (sym here) refl)
    named_by i (Behind j is m l e) = old_named i j e l

    was : (i j : ℕ) (k : Name) → place_at (insert order at place) i ≡ place_at order j → j < length order → name_at (set names place (Some new)) (place_at (insert order at place) i) ≡ Some k → name_at names (place_at order j) ≡ Some k
    was i j k e l a = sym (old j l) ∙ ap (name_at (set names place (Some new))) (sym e) ∙ a

    is_new : (i : ℕ) (k : Name) → place_at (insert order at place) i ≡ place → name_at (set names place (Some new)) (place_at (insert order at place) i) ≡ Some k → new ≡ k
    is_new i k e a = let z : Some new ≡ Some k = sym here ∙ ap (name_at (set names place (Some new))) (sym e) ∙ a in cc

    -- a name in front of the gap is below the new one, and one behind it above
    below_new : (j : ℕ) (k l : Name) → j < at → name_at names (place_at order j) ≡ Some k → new ≡ l → slice_cmp nat_cmp k.text l.text ≡ Less
    below_new j k l m a is = ap (λ (x : Name). slice_cmp nat_cmp k.text x.text) (sym is) ∙ sym (ap (λ (x : Option Name). against x new.text) a) ∙ gap.below j m

    above_new : (j : ℕ) (k l : Name) → at ≤ j → j < length order → name_at names (place_at order j) ≡ Some l → new ≡ k → slice_cmp nat_cmp k.text l.text ≡ Less
    above_new j k l m n a is = ap (λ (x : Name). slice_cmp nat_cmp x.text l.text) (sym is) ∙ back l.text new.text (sym (ap (λ (x : Option Name). against x new.text) a) ∙ gap.above j m n)

    rising_by : (i j : ℕ) (k l : Name) → i < j → Stands order at place i → Stands order at place j
        → name_at (set names place (Some new)) (place_at (insert order at place) i) ≡ Some k
        → name_at (set names place (Some new)) (place_at (insert order at place) j) ≡ Some l → slice_cmp nat_cmp k.text l.text ≡ Less
    rising_by i j k l less (Front m x e) (Front n y f) a b = o.rising i j k l less y (was i i k e x a) (was j j l f y b)
    rising_by i j k l less (Front m x e) (Here is f) a b = below_new i k l m (was i i k e x a) (is_new j l f b)
    rising_by i j k l less (Front m x e) (Behind h is n y f) a b = o.rising i h k l (omega arith) y (was i i k e x a) (was j h l f y b)
    rising_by i j k l less (Here is e) (Front n y f) a b = absurd (omega arith)
    rising_by i j k l less (Here is e) (Here same f) a b = absurd (omega arith)
    rising_by i j k l less (Here is e) (Behind h same n y f) a b = above_new h k l n y (was j h l f y b) (is_new i k e a)
    rising_by i j k l less (Behind g is m x e) (Front n y f) a b = absurd (omega arith)
    rising_by i j k l less (Behind g is m x e) (Here same f) a b = absurd (omega arith)
    rising_by i j k l less (Behind g is m x e) (Behind h same n y f) a b = o.rising g h k l (omega arith) y (was i g k e x a) (was j h l f y b)

    listed_by : (p : ℕ) (k : Name) → ((p ≡ place) × (new ≡ k)) ⊎ ((p ≢ place) × (name_at names p ≡ Some k)) → list_any (λ (q : ℕ). q == p) (place ∷ order) ≡ true
    listed_by p k (inl x) = ap (λ (c : Bool). c || list_any (λ (q : ℕ). q == p) order) (eq-eqb place p (sym x.0))
    listed_by p k (inr x) = ap (λ (c : Bool). (place == p) || c) (o.listed p k x.1) ∙ or-true (place == p)

    short_by : (p : ℕ) (k : Name) → ((p ≡ place) × (new ≡ k)) ⊎ ((p ≢ place) × (name_at names p ≡ Some k)) → length k.text ≤ 128
    short_by p k (inl x) = subst (λ (y : Name). length y.text ≤ 128) x.1 brief
    short_by p k (inr x) = o.short p k x.1

    pub put_in : IsOrdered (set names place (Some new)) (insert order at place)
    put_in = record {
      named = λ i l. named_by i (stands order at place i gap.within l);
      rising = λ i j k l less m a b. rising_by i j k l less (stands order at place i gap.within (omega arith)) (stands order at place j gap.within m) a b;
      listed = λ p k e. sym (list_any-IsPermutation (λ (q : ℕ). q == p) (place ∷ order) (insert order at place) (IsPermutation-insert order at place)) ∙ listed_by p k (either p k e);
      short = λ p k e. short_by p k (either p k e);
    }
