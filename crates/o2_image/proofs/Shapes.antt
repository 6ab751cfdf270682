-- Lists of lists of the same lengths.
use Rattle.std.proofs.Common.{◌≡◌, ◌≢◌, ℕ, ◌+◌, ◌*◌, ◌<◌, ◌≤◌, ◌==◌, ◌&&◌, List, [], ◌∷◌, Bool, true, false, drop, length, get_or, map, refl, sym, ap, ◌∙◌, arith, add-one, eq-eqb}
use Rattle.std.proofs.Math.Seq.{drop-cons}
use Rattle.std.proofs.lemmas.Bool.{eqb-true, ne_eqb}
use Rattle.std.proofs.lemmas.List.{drop_all}
use Rattle.o2_ne.proofs.Tabulated.{length-tabulate}
use Rattle.o2_ne_segs.specs.declared.segment.Segment.{Segment}
use Rattle.o2_ne_segs.specs.Records.{end_of, reloc_at, reloc_count, relocs_in}
use Rattle.o2_image.specs.ImageList.{same_shape}

both : (a b : Bool) → a && b ≡ true → (a ≡ true) × (b ≡ true)
both true b h = (refl, h)
both false b h = absurd cc

module _ {A B : Type 0} where
  -- they have the same lengths
  pub shape_lengths : (xss : List (List A)) (yss : List (List B)) → same_shape xss yss ≡ true → map length xss ≡ map length yss
  shape_lengths [] [] h = refl
  shape_lengths [] (ys ∷ yss) h = absurd cc
  shape_lengths (xs ∷ xss) [] h = absurd cc
  shape_lengths (xs ∷ xss) (ys ∷ yss) h =
      let parts = both (length xs == length ys) (same_shape xss yss) h in
      let first : length xs ≡ length ys = eqb-true _ _ parts.0 in
      ap (λ (n : ℕ). n ∷ map length xss) first ∙ ap (λ (ns : List ℕ). length ys ∷ ns) (shape_lengths xss yss parts.1)

  -- and lists of the same lengths have the same shape
  pub lengths_shape : (xss : List (List A)) (yss : List (List B)) → map length xss ≡ map length yss → same_shape xss yss ≡ true
  lengths_shape [] [] h = refl
  lengths_shape [] (ys ∷ yss) h = absurd cc
  lengths_shape (xs ∷ xss) [] h = absurd cc
  lengths_shape (xs ∷ xss) (ys ∷ yss) h =
      let first : length xs ≡ length ys = cc in
      let rest : map length xss ≡ map length yss = cc in
      rw (eq-eqb _ _ first) (lengths_shape xss yss rest)

falls : (b c : Bool) → c ≡ false → b && c ≡ false
falls true c h = h
falls false c h = refl

module _ {Q A B : Type 0} where
  pub other_lengths : (g : Q → List B) (xss : List (List A)) (ys : List Q) → length xss ≢ length ys → same_shape xss (map g ys) ≡ false
  other_lengths g [] [] ne = absurd (ne refl)
  other_lengths g [] (y ∷ ys) ne = refl
  other_lengths g (xs ∷ xss) [] ne = refl
  other_lengths g (xs ∷ xss) (y ∷ ys) ne = falls (length xs == length (g y)) (same_shape xss (map g ys)) (other_lengths g xss ys (λ e. ne (omega arith)))

  next : (g : Q → List B) (xss : List (List A)) (ys : List Q) (i : ℕ) (y : Q) → i < length xss → i < length ys
      → same_shape (drop i xss) (map g (drop i ys))
      ≡ ((length (get_or xss i []) == length (g (get_or ys i y))) && same_shape (drop (i + 1) xss) (map g (drop (i + 1) ys)))
  next g xss ys i y in_xs in_ys = rw (drop-cons xss i [] in_xs, drop-cons ys i y in_ys, add-one) refl

  pub goes_on : (g : Q → List B) (xss : List (List A)) (ys : List Q) (i : ℕ) (y : Q) (total : Bool) → i < length xss → i < length ys
      → length (get_or xss i []) ≡ length (g (get_or ys i y))
      → same_shape (drop i xss) (map g (drop i ys)) ≡ total → same_shape (drop (i + 1) xss) (map g (drop (i + 1) ys)) ≡ total
  goes_on g xss ys i y total in_xs in_ys same h =
      let one = next g xss ys i y in_xs in_ys in
      let is : (length (get_or xss i []) == length (g (get_or ys i y))) ≡ true = eq-eqb _ _ same in
      let two = rw is at one in
      sym two ∙ h

  pub fails : (g : Q → List B) (xss : List (List A)) (ys : List Q) (i : ℕ) (y : Q) (total : Bool) → i < length xss → i < length ys
      → length (get_or xss i []) ≢ length (g (get_or ys i y))
      → same_shape (drop i xss) (map g (drop i ys)) ≡ total → false ≡ total
  fails g xss ys i y total in_xs in_ys other h =
      let one = next g xss ys i y in_xs in_ys in
      let is : (length (get_or xss i []) == length (g (get_or ys i y))) ≡ false = ne_eqb _ _ other in
      let two = rw is at one in
      sym two ∙ h

  pub is_done : (g : Q → List B) (xss : List (List A)) (ys : List Q) (i : ℕ) (total : Bool) → length xss ≤ i → length ys ≤ i
      → same_shape (drop i xss) (map g (drop i ys)) ≡ total → true ≡ total
  is_done g xss ys i total past_xs past_ys h = rw (drop_all i xss past_xs, drop_all i ys past_ys) at h

pub relocs_length : (file : List ℕ) (s : Segment) → length (relocs_in file s) ≡ reloc_count file s
relocs_length file s = length-tabulate (λ k. reloc_at file (end_of s + 2 + 8 * k)) 0 (reloc_count file s)
