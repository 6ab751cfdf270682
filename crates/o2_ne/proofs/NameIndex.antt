-- What a search in the order of the folded names finds: the first name that is the same.
use Rattle.std.proofs.Common.{◌≡◌, ℕ, zero, suc, ◌<◌, ◌≤◌, ◌==◌, ◌||◌, Bool, true, false, List, [], ◌∷◌, ◌++◌, Option, Some, None, length, get_or, take, drop, map, refl, sym, ap, ◌∙◌, arith, subst, eqb-true, eq-eqb}
use Rattle.std.specs.Prelude.{nat_lt, option_map}
use Rattle.std.specs.Str.{bytes_eq}
use Rattle.std.specs.List.{list_any, slice_get}
use Rattle.std.specs.List.Sorted.{IsPartitionPoint, IsPartitionedBy, IsPermutation, IsSortedBy}
use Rattle.std.specs.declared.cmp.Ordering.{Ordering}
use Rattle.std.specs.declared.cmp.Ordering.TheVariants.{Less, Equal, Greater}
use Rattle.std.specs.Ordering.{is_lt, nat_cmp, ordering_then, ordering_reverse}
use Rattle.std.specs.Cmp.Lexicographic.{slice_cmp, nat_list_cmp_total}
use Rattle.std.specs.Cmp.{IsStrictWeakOrder, then_total, on_total, nat_cmp_total}
use Rattle.std.specs.FinMap.{slice_cmp-IsAntisymmetric, nat_cmp-IsAntisymmetric}
use Rattle.std.proofs.Math.Bool.{or-true}
use Rattle.std.proofs.lemmas.Bool.{ltb-true, ltb-false}
use Rattle.std.proofs.lemmas.Slice.Eq.{bytes_eq-Decides}
use Rattle.std.proofs.lemmas.List.Sorted.{list_any-IsPermutation, ranks_by, sorted_far}
use Rattle.std.proofs.lemmas.Option.{get_or_from_slice_get, slice_get_within, slice_get-get_or, slice_get-map}
use Rattle.std.proofs.lemmas.List.{length-map, take-append-drop}
use Rattle.std.proofs.lemmas.List.Folds.{list_any-append}
use Rattle.o2_ne.specs.declared.names.Name.{Name}
use Rattle.o2_ne.specs.NameOrder.{AreThose, IsIndex, place_by, places_by, by_name, folded, folded_at, is_before, name_in, names_in, ordinal_at, text_of}
use Rattle.o2_ne.specs.NameTable.{ordinal_of, same_name}
use Rattle.o2_ne.proofs.FoldedLaws.{nat_cmp_less}
use Rattle.o2_ne.proofs.Lookup.{find_at, find_nowhere}

-- a sort keeps the places
pub those_sorted : (places xs ys : List ℕ) → IsPermutation xs ys → AreThose places xs → AreThose places ys
those_sorted places xs ys moved those passes = sym (list_any-IsPermutation passes xs ys moved) ∙ those passes

any_by : (passes : ℕ → Bool) (place : ℕ → ℕ) (keys : List ℕ) → list_any passes (map place keys) ≡ list_any (λ (key : ℕ). passes (place key)) keys
any_by passes place [] = refl
any_by passes place (key ∷ keys) = ap (λ (b : Bool). passes (place key) || b) (any_by passes place keys)

-- and so does one of keys that stand for them
pub those_by : (places xs ys : List ℕ) → IsPermutation xs ys → places_by places xs ≡ places → AreThose places (places_by places ys)
those_by places xs ys moved are passes =
    any_by passes (place_by places) ys ∙ sym (list_any-IsPermutation (λ (key : ℕ). passes (place_by places key)) xs ys moved) ∙ sym (any_by passes (place_by places) xs)
    ∙ ap (λ (ps : List ℕ). list_any passes ps) are

-- places of which the last ones are in another order
pub those_behind : (from : ℕ) (places behind : List ℕ) → AreThose (drop from places) behind → AreThose places (take from places ++ behind)
those_behind from places behind those passes =
    list_any-append passes (take from places) behind
    ∙ ap (λ (b : Bool). list_any passes (take from places) || b) (those passes)
    ∙ sym (list_any-append passes (take from places) (drop from places))
    ∙ ap (λ (ps : List ℕ). list_any passes ps) (take-append-drop from places)

-- where a place stands in a list of places that has it
pub found_in : (k : ℕ) (order : List ℕ) → list_any (λ (y : ℕ). y == k) order ≡ true → (j : ℕ) × (j < length order) × ((d : ℕ) → get_or order j d ≡ k)
found_in k [] h = absurd cc
found_in k (y ∷ ys) h = go (y == k) refl (λ e. found_in k ys e)
  where
    go : (b : Bool) → (y == k) ≡ b → (list_any (λ (x : ℕ). x == k) ys ≡ true → (j : ℕ) × (j < length ys) × ((d : ℕ) → get_or ys j d ≡ k))
        → (j : ℕ) × (j < length (y ∷ ys)) × ((d : ℕ) → get_or (y ∷ ys) j d ≡ k)
    go true e more = (0, omega arith, λ d. eqb-true y k e)
    go false e more =
        let rest : list_any (λ (x : ℕ). x == k) ys ≡ true = rw e at h in
        let found = more rest in
        (suc found.0, (let lt = found.1 in omega arith), λ d. found.2 d)

-- a list has the place at an index
pub has_at : (order : List ℕ) (i k : ℕ) → slice_get order i ≡ Some k → list_any (λ (y : ℕ). y == k) order ≡ true
has_at [] i k e = absurd cc
has_at (y ∷ ys) zero k e = let same : y ≡ k = cc in let is : (y == k) ≡ true = eq-eqb y k same in rw is refl
has_at (y ∷ ys) (suc i) k e = rw (has_at ys i k e) (or-true (y == k))

-- the text of a name by its place
pub text_there : (file places : List ℕ) (n : ℕ) (d : Name) → n < length places → (get_or (names_in file places) n d).text ≡ text_of file (get_or places n 0)
text_there file [] n d lt = absurd (omega arith)
text_there file (p ∷ ps) zero d lt = refl
text_there file (p ∷ ps) (suc n) d lt = text_there file ps n d (omega arith)

-- where two orders of lists agree
level : (xs : List ℕ) → slice_cmp nat_cmp xs xs ≡ Equal
level xs = go (slice_cmp nat_cmp xs xs) refl
  where
    go : (r : Ordering) → slice_cmp nat_cmp xs xs ≡ r → slice_cmp nat_cmp xs xs ≡ Equal
    go Less e = absurd (let turned = nat_list_cmp_total.antisymm xs xs in let bad = rw e at turned in cc)
    go Equal e = e
    go Greater e = absurd (let turned = nat_list_cmp_total.antisymm xs xs in let bad = rw e at turned in cc)

abbrev Point : List ℕ → List ℕ → List ℕ → ℕ → Type 0
Point file order name i =
    IsPartitionPoint (λ p. is_before file name p ≡ true) (λ p. is_before file name p ≡ false) order i

-- the order of the places is one
pub by_name_ranks : (file : List ℕ) → IsStrictWeakOrder (λ (a b : ℕ). is_lt (by_name file a b))
by_name_ranks file = ranks_by (then_total (on_total (λ (a : ℕ). folded_at file a) nat_list_cmp_total) nat_cmp_total) (λ (a : ℕ). a)

-- places that rise
abbrev pub Rise : List ℕ → Type 0
Rise places = (i j : ℕ) → i < j → j < length places → get_or places i 0 < get_or places j 0

module _ (file places order name : List ℕ) (i : ℕ) (index : IsIndex file places order) (point : Point file order name i) where
  -- a place of this name doesn't stand before the point
  behind : (k j : ℕ) → folded_at file k ≡ folded name → j < length order → ((d : ℕ) → get_or order j d ≡ k) → i ≤ j
  behind k j same below is = go (nat_lt j i) refl
    where
      go : (b : Bool) → nat_lt j i ≡ b → i ≤ j
      go false e = ltb-false j i e
      go true e =
          let before : is_before file name (get_or order j 0) ≡ true = point.0 j 0 (omega arith) (ltb-true j i e) in
          let here : is_before file name k ≡ true = subst (λ (x : ℕ). is_before file name x ≡ true) (is 0) before in
          let equal : is_lt (slice_cmp nat_cmp (folded name) (folded name)) ≡ true = subst (λ (xs : List ℕ). is_lt (slice_cmp nat_cmp xs (folded name)) ≡ true) same here in
          absurd (let bad = rw (level (folded name)) at equal in cc)

  -- where a place stands in the order
  placed : (n : ℕ) → n < length places → (j : ℕ) × (j < length order) × ((d : ℕ) → get_or order j d ≡ get_or places n 0)
  placed n lt =
      found_in (get_or places n 0) order (index.each (λ (y : ℕ). y == get_or places n 0) ∙ has_at places n (get_or places n 0) (slice_get-get_or places n 0 lt))

  -- one of this name isn't before the one at the point
  not_before : (n x : ℕ) → n < length places → folded_at file (get_or places n 0) ≡ folded name → slice_get order i ≡ Some x
      → is_lt (by_name file (get_or places n 0) x) ≡ false
  not_before n x lt same at =
      let found = placed n lt in
      let j = found.0 in
      let le : i ≤ j = behind (get_or places n 0) j same found.1 found.2 in
      let far = sorted_far (λ (a b : ℕ). is_lt (by_name file a b)) (by_name_ranks file) order index.sorted i j 0 le found.1 in
      let first : get_or order i 0 ≡ x = get_or_from_slice_get order i x 0 at in
      subst (λ (a : ℕ). is_lt (by_name file (get_or places n 0) a) ≡ false) first (subst (λ (a : ℕ). is_lt (by_name file a (get_or order i 0)) ≡ false) (found.2 0) far)

  abbrev same_at : ℕ → Bool
  same_at k = bytes_eq (folded_at file k) (folded name)

  fails : (k : ℕ) → (folded_at file k ≡ folded name → ⊥) → same_at k ≡ false
  fails k never = go (same_at k) refl
    where
      go : (b : Bool) → same_at k ≡ b → same_at k ≡ false
      go false e = e
      go true e = absurd (never ((bytes_eq-Decides (folded_at file k) (folded name)).0 e))

  named_at : (n : ℕ) (d : Name) → n < length places → same_at (get_or places n 0) ≡ false → same_name (get_or (names_in file places) n d).text name ≡ false
  named_at n d lt e = ap (λ (t : List ℕ). same_name t name) (text_there file places n d lt) ∙ e

  abbrev nowhere : Type 0
  nowhere = (n : ℕ) → n < length places → folded_at file (get_or places n 0) ≡ folded name → ⊥

  none_of : nowhere → ordinal_of name (names_in file places) ≡ None
  none_of never =
      ap (λ (o : Option Name). option_map (λ (n : Name). n.ordinal) o)
      (find_nowhere (λ (n : Name). same_name n.text name) (names_in file places)
      (λ n d lt. let below : n < length places = (let e = length-map places (name_in file) in omega arith) in named_at n d below (fails (get_or places n 0) (never n below))))

  -- no place is left
  pub past : slice_get order i ≡ None → ordinal_of name (names_in file places) ≡ None
  past at = none_of (λ n lt same.
      let found = placed n lt in
      let le : i ≤ found.0 = behind (get_or places n 0) found.0 same found.1 found.2 in
      let lt2 : found.0 < length order = found.1 in
      let some = slice_get-get_or order i 0 (omega arith) in
      let bad = sym some ∙ at in
      cc)

  -- the name there is another one
  pub other : (x : ℕ) → slice_get order i ≡ Some x → same_name (text_of file x) name ≡ false → ordinal_of name (names_in file places) ≡ None
  other x at differs = none_of never
    where
      apart : folded_at file x ≡ folded name → ⊥
      apart e =
          let passes : bytes_eq (folded_at file x) (folded name) ≡ true = (bytes_eq-Decides (folded_at file x) (folded name)).1 e in
          let bad = sym passes ∙ differs in
          cc

      not_lower : is_lt (slice_cmp nat_cmp (folded_at file x) (folded name)) ≡ false
      not_lower =
          let first : get_or order i 0 ≡ x = get_or_from_slice_get order i x 0 at in
          subst (λ (a : ℕ). is_before file name a ≡ false) first (point.1 i 0 (omega arith) (slice_get_within order i x at))

      never : nowhere
      never n lt same = go (slice_cmp nat_cmp (folded_at file x) (folded name)) refl
        where
          go : (o : Ordering) → slice_cmp nat_cmp (folded_at file x) (folded name) ≡ o → ⊥
          go Less e = let bad = rw e at not_lower in cc
          go Equal e = apart (slice_cmp-IsAntisymmetric nat_cmp-IsAntisymmetric (folded_at file x) (folded name) e)
          go Greater e =
              let turned : slice_cmp nat_cmp (folded name) (folded_at file x) ≡ Less = nat_list_cmp_total.antisymm (folded name) (folded_at file x) ∙ ap ordering_reverse e in
              let before : slice_cmp nat_cmp (folded_at file (get_or places n 0)) (folded_at file x) ≡ Less = ap (λ (t : List ℕ). slice_cmp nat_cmp t (folded_at file x)) same ∙ turned in
              let far = not_before n x lt same at in
              let bad = rw before at far in
              cc

  -- the name there is the first one that is the same, where the places rise
  pub here : (x : ℕ) → Rise places → slice_get order i ≡ Some x → same_name (text_of file x) name ≡ true
      → ordinal_of name (names_in file places) ≡ Some (ordinal_at file x)
  here x rise at is =
      ap (λ (o : Option Name). option_map (λ (n : Name). n.ordinal) o)
      (find_at (λ (n : Name). same_name n.text name) (names_in file places) found.0 (name_in file x) earlier there is)
    where
      found : (j : ℕ) × (j < length places) × ((d : ℕ) → get_or places j d ≡ x)
      found = found_in x places (sym (index.each (λ (y : ℕ). y == x)) ∙ has_at order i x at)

      there : slice_get (names_in file places) found.0 ≡ Some (name_in file x)
      there =
          slice_get-map (name_in file) places found.0
          ∙ ap (option_map (name_in file)) (slice_get-get_or places found.0 0 found.1)
          ∙ ap (λ (p : ℕ). Some (name_in file p)) (found.2 0)

      same_x : folded_at file x ≡ folded name
      same_x = (bytes_eq-Decides (folded_at file x) (folded name)).0 is

      not_same : (n : ℕ) → n < found.0 → folded_at file (get_or places n 0) ≡ folded name → ⊥
      not_same n lt same =
          let below : found.0 < length places = found.1 in
          let less : get_or places n 0 < x = subst (λ (p : ℕ). get_or places n 0 < p) (found.2 0) (rise n found.0 lt below) in
          let far = not_before n x (omega arith) same at in
          let equal : slice_cmp nat_cmp (folded_at file (get_or places n 0)) (folded_at file x) ≡ Equal =
          ap (λ (t : List ℕ). slice_cmp nat_cmp t (folded_at file x)) (same ∙ sym same_x) ∙ level (folded_at file x) in
          let bad = rw (equal, nat_cmp_less (get_or places n 0) x less) at far in
          cc

      earlier : (n : ℕ) (d : Name) → n < found.0 → same_name (get_or (names_in file places) n d).text name ≡ false
      earlier n d lt =
          let below : found.0 < length places = found.1 in
          named_at n d (omega arith) (fails (get_or places n 0) (not_same n lt))

not_first : (a b : Ordering) → is_lt (ordering_then a b) ≡ false → is_lt a ≡ false
not_first Less b h = h
not_first Equal b h = refl
not_first Greater b h = refl

-- those that come before a name stand at the front
pub parted : (file order name : List ℕ) → IsSortedBy (λ (a b : ℕ). is_lt (by_name file a b)) order → IsPartitionedBy (is_before file name) order
parted file order name sorted i j d le lt before = go (is_before file name (get_or order i d)) refl
  where
    far : is_lt (by_name file (get_or order j d) (get_or order i d)) ≡ false
    far =
        sorted_far (λ (a b : ℕ). is_lt (by_name file a b)) (by_name_ranks file) order sorted i j d le lt

    go : (b : Bool) → is_before file name (get_or order i d) ≡ b → is_before file name (get_or order i d) ≡ true
    go true e = e
    go false e =
        let after = (ranks_by nat_list_cmp_total (λ (t : List ℕ). t)).chain (folded_at file (get_or order j d)) (folded_at file (get_or order i d)) (folded name)
        (not_first _ (nat_cmp (get_or order j d) (get_or order i d)) far) e in
        absurd (let bad = sym before ∙ after in cc)
