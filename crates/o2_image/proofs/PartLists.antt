-- Parts of a list, and one part more.
use Rattle.std.proofs.Common.{◌≡◌, ℕ, zero, suc, ◌+◌, ◌-◌, ◌<◌, ◌≤◌, List, [], ◌∷◌, ◌++◌, Some, drop, get_or, length, map, take, refl, sym, ap, ◌∙◌, arith, length-append, length-drop}
use Rattle.std.specs.List.{slice_get}
use Rattle.std.proofs.lemmas.Option.{slice_get-get_or}
use Rattle.std.proofs.lemmas.List.{drop-append-le, drop-drop, drop-take, get_or-drop, get_or-map, get_or-take, length-take, length-take-le, map-append, take-append-le, take-take, take_all}
use Rattle.std.proofs.Math.Seq.{drop-append_seam}
use Rattle.o2_image.specs.declared.sharing.Part.{Part}
use Rattle.o2_image.specs.Alike.{AreWithin, behind, chosen, no_part, part_of, parts_of}

module _ {X : Type 0} where
  -- a part has as many items as it says
  pub part_length : (xs : List X) (ps : List Part) (k : ℕ) (d : Part) → AreWithin (length xs) ps → k < length ps → length (get_or (parts_of xs ps) k []) ≡ (get_or ps k d).count
  part_length xs ps k d within low =
      let p = get_or ps k d in
      let e = length-drop p.from xs in
      let w = within k d low in
      ap length (get_or-map (part_of xs) ps k d [] low) ∙ length-take-le p.count (drop p.from xs) (omega (arith, e, w))

  -- how many items it has otherwise
  pub part_whole : (xs : List X) (p : Part) → p.count ≤ length xs - p.from → length (part_of xs p) ≡ p.count
  part_whole xs p le = let e = length-drop p.from xs in length-take-le p.count (drop p.from xs) (omega (arith, e, le))

  pub part_cut : (xs : List X) (p : Part) → length xs - p.from ≤ p.count → length (part_of xs p) ≡ length xs - p.from
  part_cut xs p le = let e = length-drop p.from xs in ap length (take_all p.count (drop p.from xs) (omega (arith, e, le))) ∙ e

  -- an item of it
  pub part_item : (xs : List X) (p : Part) (k : ℕ) (d : X) → k < length (part_of xs p) → slice_get (part_of xs p) k ≡ Some (get_or xs (p.from + k) d)
  part_item xs p k d lt =
      let e = length-take p.count (drop p.from xs) in
      let low : k < p.count = omega (arith, e, lt) in
      slice_get-get_or (part_of xs p) k d lt ∙ ap (λ (x : X). Some x) (get_or-take p.count (drop p.from xs) k d low ∙ get_or-drop p.from xs k d)

  -- a part stays the same where the list goes on
  stays : (xs ys : List X) (p : Part) → p.from + p.count ≤ length xs → part_of (xs ++ ys) p ≡ part_of xs p
  stays xs ys p w =
      let e = length-drop p.from xs in
      ap (take p.count) (drop-append-le p.from xs ys (omega (arith, w))) ∙ take-append-le p.count (drop p.from xs) ys (omega (arith, e, w))

  stay : (xs ys : List X) (ps : List Part) → AreWithin (length xs) ps → parts_of (xs ++ ys) ps ≡ parts_of xs ps
  stay xs ys [] within = refl
  stay xs ys (p ∷ ps) within =
      ap (λ (y : List X). y ∷ parts_of (xs ++ ys) ps) (stays xs ys p (within 0 p (omega arith)))
      ∙ ap (λ (zs : List (List X)). part_of xs p ∷ zs) (stay xs ys ps (λ k d lt. within (suc k) d (omega (arith, lt))))

  -- one part more
  more : (xs ys : List X) (ps : List Part) (p : Part) → AreWithin (length xs) ps → parts_of (xs ++ ys) (ps ++ p ∷ []) ≡ parts_of xs ps ++ part_of (xs ++ ys) p ∷ []
  more xs ys ps p within =
      map-append (part_of (xs ++ ys)) ps (p ∷ []) ∙ ap (λ (zs : List (List X)). zs ++ part_of (xs ++ ys) p ∷ []) (stay xs ys ps within)

  -- a part behind all others
  whole : (xs ys : List X) (p : Part) → p.from ≡ length xs → p.count ≡ length ys → part_of (xs ++ ys) p ≡ ys
  whole xs ys p from count = rw (from, count) (ap (take (length ys)) (drop-append_seam xs ys) ∙ take_all (length ys) ys (omega arith))

  pub added : (xs ys after : List X) (ps next : List Part) (p : Part) → AreWithin (length xs) ps → after ≡ xs ++ ys → next ≡ ps ++ p ∷ [] → p.from ≡ length xs → p.count ≡ length ys
      → parts_of after next ≡ parts_of xs ps ++ ys ∷ []
  added xs ys after ps next p within one two from count =
      rw (one, two) (more xs ys ps p within ∙ ap (λ (y : List X). parts_of xs ps ++ y ∷ []) (whole xs ys p from count))

  -- a part that goes on behind an earlier one
  onwards : (xs ys : List X) (p q : Part) (n : ℕ) → p.from + p.count ≡ length xs → n ≤ p.count → q.from ≡ p.from + n → q.count ≡ p.count - n + length ys
      → part_of (xs ++ ys) q ≡ behind (part_of xs p) n ys
  onwards xs ys p q n end le from count =
      let e = length-drop p.from xs in
      let g = length-drop (p.from + n) xs in
      let f = length-append (drop (p.from + n) xs) ys in
      let old : part_of xs p ≡ drop p.from xs = take_all p.count (drop p.from xs) (omega (arith, e, end)) in
      rw from
      (ap (take q.count) (drop-append-le (p.from + n) xs ys (omega (arith, end, le)))
      ∙ take_all q.count (drop (p.from + n) xs ++ ys) (omega (arith, f, g, count, end, le))
      ∙ ap (λ (zs : List X). zs ++ ys) (sym (ap (drop n) old ∙ drop-drop n p.from xs)))

  pub added_behind : (xs ys after : List X) (ps next : List Part) (k n : ℕ) (p q : Part) → AreWithin (length xs) ps → k < length ps → p ≡ get_or ps k p → p.from + p.count ≡ length xs → n ≤ p.count
      → q.from ≡ p.from + n → q.count ≡ p.count - n + length ys → after ≡ xs ++ ys → next ≡ ps ++ q ∷ [] → parts_of after next ≡ parts_of xs ps ++ behind (get_or (parts_of xs ps) k []) n ys ∷ []
  added_behind xs ys after ps next k n p q within low is end le from count one two =
      let at : get_or (parts_of xs ps) k [] ≡ part_of xs p = get_or-map (part_of xs) ps k p [] low ∙ ap (part_of xs) (sym is) in
      rw (one, two, at) (more xs ys ps q within ∙ ap (λ (y : List X). parts_of xs ps ++ y ∷ []) (onwards xs ys p q n end le from count))

  -- a part of a part
  inside : (xs : List X) (p q : Part) (n : ℕ) → n + q.count ≤ p.count → q.from ≡ p.from + n → part_of xs q ≡ take q.count (drop n (part_of xs p))
  inside xs p q n le from =
      let sum : n + (p.count - n) ≡ p.count = omega (arith, le) in
      let one : drop n (part_of xs p) ≡ take (p.count - n) (drop n (drop p.from xs)) =
      ap (λ (k : ℕ). drop n (take k (drop p.from xs))) (sym sum) ∙ drop-take n (p.count - n) (drop p.from xs) in
      rw from
      (ap (take q.count) (sym (drop-drop n p.from xs))
      ∙ sym (take-take q.count (p.count - n) (drop n (drop p.from xs)) (omega (arith, le)))
      ∙ ap (take q.count) (sym one))

  pub added_within : (xs : List X) (ps next : List Part) (k n m : ℕ) (p q : Part) → k < length ps → p ≡ get_or ps k p → q.count ≡ m → n + q.count ≤ p.count → q.from ≡ p.from + n → next ≡ ps ++ q ∷ []
      → parts_of xs next ≡ parts_of xs ps ++ take m (drop n (get_or (parts_of xs ps) k [])) ∷ []
  added_within xs ps next k n m p q low is count le from two =
      let at : get_or (parts_of xs ps) k [] ≡ part_of xs p = get_or-map (part_of xs) ps k p [] low ∙ ap (part_of xs) (sym is) in
      rw (← count, two, at) (map-append (part_of xs) ps (q ∷ []) ∙ ap (λ (y : List X). parts_of xs ps ++ y ∷ []) (inside xs p q n le from))

  -- the part at a place
  at_place : (xs : List X) (ps : List Part) (k : ℕ) → part_of xs (get_or ps k no_part) ≡ get_or (parts_of xs ps) k []
  at_place xs [] k = refl
  at_place xs (p ∷ ps) zero = refl
  at_place xs (p ∷ ps) (suc k) = at_place xs ps k

  pub chosen_parts : (xs : List X) (ps : List Part) (places : List ℕ) → parts_of xs (chosen ps places) ≡ map (λ p. get_or (parts_of xs ps) p []) places
  chosen_parts xs ps [] = refl
  chosen_parts xs ps (k ∷ ks) =
      ap (λ (y : List X). y ∷ parts_of xs (chosen ps ks)) (at_place xs ps k) ∙ ap (λ (zs : List (List X)). get_or (parts_of xs ps) k [] ∷ zs) (chosen_parts xs ps ks)
