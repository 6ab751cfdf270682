-- What is gathered in one order, in another.
use Rattle.std.proofs.Common.{◌≡◌, ◌≢◌, ℕ, zero, suc, ◌+◌, ◌-◌, ◌<◌, List, [], ◌∷◌, drop, get_or, length, map, Result, Ok, Err, refl, sym, ap, ◌∙◌, arith, inl, inr}
use Rattle.std.proofs.Math.Seq.{drop-cons}
use Rattle.std.proofs.lemmas.Bool.{cases_lt}
use Rattle.std.proofs.lemmas.List.{drop_all, get_or-map, get_or_past, length-map}
use Rattle.o2_ne.specs.Checks.{◌>>=◌}
use Rattle.o2_ne.specs.Steps.{over, tabulate}
use Rattle.o2_image.specs.Getters.{nth_list}
use Rattle.o2_image.specs.Images.{Target}
use Rattle.o2_image.proofs.Getting.{at_number}
use Rattle.o2_dynlink.specs.Imports.{each, gather, on_list}
use Rattle.o2_dynlink.specs.Memo.{AreAt}
use Rattle.o2_dynlink.proofs.Behind.{each_at, each_of}

bind_same : {A B F : Type 0} (r : Result A F) (f g : A → Result B F) → ((a : A) → f a ≡ g a) → (r >>= f) ≡ (r >>= g)
bind_same (Ok a) f g same = same a
bind_same (Err e) f g same = refl

module _ {X F : Type 0} (f : X → Result Target F) (records : List (List X)) where
  number : (k : ℕ) → nth_list records (k + 1) ≡ get_or records k []
  number k = let some : k + 1 ≢ 0 = omega arith in let back : k + 1 - 1 ≡ k = omega arith in at_number records (k + 1) some ∙ ap (λ i. get_or records i []) back

  -- the lists of the records, from those that were gathered in an order
  pub in_places : (order places : List ℕ) (found : List (List Target)) → each (on_list f records) order ≡ Ok found → length places ≡ length records → AreAt order places
      → each (each f) records ≡ Ok (map (λ p. get_or found p []) places)
  in_places order places found h count at =
      let many = length-map places (λ p. get_or found p []) in
      each_of (each f) records (map (λ p. get_or found p []) places) [] [] (omega (arith, many, count)) one
    where
      inside : (p k : ℕ) → get_or order p 0 ≡ k + 1 → p < length order
      inside p k is = elim (cases_lt p (length order)) [
        | inl lt ↦ lt
        | inr le ↦ absurd (let none = get_or_past order p 0 le in omega (arith, none, is))
      ]

      one : (k : ℕ) → k < length records → each f (get_or records k []) ≡ Ok (get_or (map (λ p. get_or found p []) places) k [])
      one k lt =
          let p = get_or places k 0 in
          let low : k < length places = omega (arith, count, lt) in
          let is : get_or order p 0 ≡ k + 1 = at k low in
          let here : on_list f records (get_or order p 0) ≡ Ok (get_or found p []) = each_at (on_list f records) order found p 0 [] h (inside p k is) in
          ap (each f) (sym (number k)) ∙ ap (on_list f records) (sym is) ∙ here ∙ ap (λ x. Ok x) (sym (get_or-map (λ p. get_or found p []) places k 0 [] low))

  -- those that were gathered by rising number are they
  from_one : (n s : ℕ) (found : List (List Target)) → s + n ≡ length records → over (gather (on_list f records)) (tabulate (λ k. k + 1) s n) found ≡ over (gather (each f)) (drop s records) found
  unfolding over tabulate
  from_one zero s found count = rw (drop_all s records (omega (arith, count))) refl
  from_one (suc n) s found count =
      let lt : s < length records = omega (arith, count) in
      let on : suc s ≡ s + 1 = omega arith in
      let rest : drop s records ≡ get_or records s [] ∷ drop (s + 1) records = drop-cons records s [] lt ∙ ap (λ i. get_or records s [] ∷ drop i records) on in
      rw (rest, ← number s) (bind_same (gather (on_list f records) (s + 1) found) _ _ (λ more. from_one n (s + 1) more (omega (arith, count))))

  pub numbered : (n : ℕ) → n ≡ length records → each (on_list f records) (tabulate (λ k. k + 1) 0 n) ≡ each (each f) records
  numbered n count = from_one n 0 [] (omega (arith, count))
