-- The indexes of the libraries' segments lie one behind the other.
use Rattle.std.proofs.Common.{◌≡◌, ◌⊎◌, inl, inr, ℕ, zero, suc, ◌+◌, ◌-◌, ◌<◌, ◌≤◌, ◌&&◌, ◌||◌, nat_le, nat_lt, Bool, true, false, cond, List, [], ◌∷◌, length, take}
use Rattle.std.proofs.Common.{get_or, Option, Some, None, if◌then◌else◌, ap, sym, ◌∙◌, refl, arith, subst}
use Rattle.std.specs.Prelude.{slice_get, fold, map, option_map, unwrap_or, is_some}
use Rattle.std.specs.List.{list_any}
use Rattle.std.proofs.lemmas.Bool.{cases_lt}
use Rattle.std.proofs.lemmas.Bool.Decides.{nat_tests}
use Rattle.std.proofs.lemmas.List.{length-map, take-map, take_all}
use Rattle.std.proofs.lemmas.List.Folds.{list_any-append}
use Rattle.std.proofs.lemmas.Option.{slice_get-map, slice_get_past}
use Rattle.o2_image.specs.Getters.{is_library, nth}
use Rattle.o2_image.specs.ImageList.{ImageList, Resolution}
use Rattle.o2_image.specs.Parts.{Parts}
use Rattle.o2_dynlink.specs.Outcome.{IsConsistent, LinkedParts, modules_of}
use Rattle.o2_dynlink.specs.Selectors.{shared_after, base_after, bases_from, bases_of, base_at, index_in, index_of}
use Rattle.o2_dynlink.proofs.Indexes.{index_is, nth_some}
use Rattle.o2_regions.specs.declared.held.Held.{Held}
use Rattle.o2_regions.specs.declared.held.Region.{Region}
use Rattle.o2_regions.specs.declared.held.Region.TheVariants.{Private, Shared}
use Rattle.o2_regions.specs.Kept.{AreKept}
use Rattle.o2_regions.specs.Maps.{Maps, IsProcess, held_at, is_reserved, is_taken, some_holds, with_reserved}
use Rattle.o2_regions.proofs.Reserves.{is_reserved-with}
use Rattle.o2_world.proofs.Keeps.{some_is}
use Rattle.o2_world.specs.Known.{is_for_the_run}
use Rattle.o2_world.specs.Starts.{for_the_run}
use Rattle.o2_load.specs.Loads.{index_at, library_range, ranges_from}
use Rattle.o2_load.proofs.Apart.{used_grows}
use Rattle.o2_opening.specs.Libraries.{library_indexes, indexes_of}

-- one module more
used_next : (used : ℕ) (m : Parts) → shared_after used m ≡ used + indexes_of (Some m)
used_next used m = go (is_library m)
  where
    go : (t : Bool) → cond t (used + length m.segments) used ≡ used + cond t (length m.segments) 0
    go true = refl
    go false = omega arith

fold_take : (used k : ℕ) (ms : List Parts) (m : Parts) → slice_get ms k ≡ Some m → fold shared_after used (take (k + 1) ms) ≡ shared_after (fold shared_after used (take k ms)) m
fold_take used k [] m e = absurd (cc)
fold_take used zero (a ∷ ms) m e = ap (shared_after used) (some_is a m (Some a) refl e)
fold_take used (suc k) (a ∷ ms) m e =
    let one : suc k + 1 ≡ suc (k + 1) = omega arith in
    ap (λ (n : ℕ). fold shared_after used (take n (a ∷ ms))) one ∙ fold_take (shared_after used a) k ms m e

there : (ms : List Parts) (k : ℕ) → k < length ms → (m : Parts) × (slice_get ms k ≡ Some m)
there [] k less = absurd (omega (arith, less))
there (m ∷ ms) zero less = (m, refl)
there (m ∷ ms) (suc k) less = there ms k (omega (arith, less))

nth_is : (ms : List Parts) (k : ℕ) → nth ms (k + 1) ≡ slice_get ms k
nth_is ms k = grind arith

-- the indexes of the first k modules and one more
pub indexes_next : (ms : List Parts) (k : ℕ) → library_indexes (take (k + 1) ms) ≡ library_indexes (take k ms) + indexes_of (nth ms (k + 1))
indexes_next ms k = elim (cases_lt k (length ms)) [
  | inl less ↦
      (let m = there ms k less in
      fold_take 0 k ms m.0 m.1 ∙ used_next (fold shared_after 0 (take k ms)) m.0 ∙ ap (λ (o : Option Parts). fold shared_after 0 (take k ms) + indexes_of o) (sym (nth_is ms k ∙ m.1)))
  | inr past ↦
      (let none : nth ms (k + 1) ≡ None = nth_is ms k ∙ slice_get_past ms k past in
      ap library_indexes (take_all (k + 1) ms (omega (arith, past))) ∙ ap library_indexes (sym (take_all k ms past))
      ∙ (let e : library_indexes (take k ms) ≡ library_indexes (take k ms) + 0 = omega arith in e) ∙ ap (λ (o : Option Parts). library_indexes (take k ms) + indexes_of o) (sym none))
]

base_is : (used : ℕ) (ms : List Parts) (k : ℕ) (m : Parts) → slice_get ms k ≡ Some m → get_or (bases_from used ms) k 0 ≡ base_after (fold shared_after used (take k ms)) m
base_is used [] k m e = absurd (cc)
base_is used (a ∷ ms) zero m e = ap (base_after used) (some_is a m (Some a) refl e)
base_is used (a ∷ ms) (suc k) m e = base_is (shared_after used a) ms k m e

-- all indexes lie in the table, so there are 4,096 at most
module _ (ms : List Parts) (within : (place seg index : ℕ) → index_of ms place seg ≡ Some index → index ≤ 8191) where
  next_fits : (k : ℕ) (m : Parts) → slice_get ms k ≡ Some m → (used : ℕ) → used ≡ fold shared_after 0 (take k ms) → used ≤ 4096 → shared_after used m ≤ 4096
  next_fits k m at used is small = go (is_library m) refl (cases_lt 0 (length m.segments))
    where
      go : (t : Bool) → is_library m ≡ t → (0 < length m.segments) ⊎ (length m.segments ≤ 0) → shared_after used m ≤ 4096
      go false e cases = subst (λ (x : ℕ). x ≤ 4096) (sym (ap (λ (t : Bool). cond t (used + length m.segments) used) e)) small
      go true e (inr none) =
          let same : shared_after used m ≡ used + length m.segments = ap (λ (t : Bool). cond t (used + length m.segments) used) e in
          omega (arith, same, none, small)
      go true e (inl some) =
          let same : shared_after used m ≡ used + length m.segments = ap (λ (t : Bool). cond t (used + length m.segments) used) e in
          let back : k + 1 - 1 ≡ k = omega arith in
          let base : base_at (bases_of ms) (k + 1) ≡ 4095 + used =
          ap (λ (x : ℕ). get_or (bases_of ms) x 0) back ∙ base_is 0 ms k m at ∙ ap (λ (x : ℕ). base_after x m) (sym is) ∙ ap (λ (t : Bool). cond t (4095 + used) 0) e in
          let index = index_is ms (k + 1) (length m.segments) (4095 + used) m (nth_is ms k ∙ at) (sym base) (omega (arith, some)) (omega arith) in
          let top = within (k + 1) (length m.segments) (4095 + used + length m.segments) (sym index) in
          omega (arith, same, top)

  pub few_indexes : (k : ℕ) → library_indexes (take k ms) ≤ 4096
  few_indexes zero = none ms
    where
      none : (xs : List Parts) → library_indexes (take 0 xs) ≤ 4096
      none [] = omega arith
      none (x ∷ xs) = omega arith
  few_indexes (suc k) = elim (cases_lt k (length ms)) [
    | inl less ↦
        (let m = there ms k less in
        let one : suc k ≡ k + 1 = omega arith in
        subst (λ (x : ℕ). library_indexes (take x ms) ≤ 4096) (sym one)
        (subst (λ (x : ℕ). x ≤ 4096) (sym (fold_take 0 k ms m.0 m.1)) (next_fits k m.0 m.1 (fold shared_after 0 (take k ms)) refl (few_indexes k))))
    | inr past ↦ subst (λ (xs : List Parts). library_indexes xs ≤ 4096) (take_all k ms past ∙ sym (take_all (suc k) ms (omega (arith, past)))) (few_indexes k)
  ]

  pub all_few : (k : ℕ) → length ms ≤ k → library_indexes ms ≤ 4096
  all_few k le = subst (λ (xs : List Parts). library_indexes xs ≤ 4096) (take_all k ms le) (few_indexes k)

-- What is reserved for the run: the libraries' ranges are one range.

none_in : (x i : ℕ) → (nat_le x i && nat_lt i (x + 0)) ≡ false
none_in x i = grind (arith, nat_tests)

joined : (a b c i : ℕ) → a ≤ b → b ≤ c → ((nat_le a i && nat_lt i b) || (nat_le b i && nat_lt i c)) ≡ (nat_le a i && nat_lt i c)
joined a b c i low high = grind (arith, nat_tests)

empty_range : (a i : ℕ) → false ≡ (nat_le a i && nat_lt i a)
empty_range a i = grind (arith, nat_tests)

fold_grows : (ms : List Parts) (used : ℕ) → used ≤ fold shared_after used ms
fold_grows [] used = omega arith
fold_grows (m ∷ ms) used = let a = used_grows used m in let b = fold_grows ms (shared_after used m) in omega (arith, a, b)

-- where each library with segments begins
abbrev Begins : ImageList → ℕ → ℕ → List Resolution → Type 0
Begins images used j rs = (k : ℕ) (r : Resolution) → slice_get rs k ≡ Some r → is_library r.0 ≡ true → 0 < length r.0.segments
    → index_at images (j + k) 1 ≡ 4096 + fold shared_after used (map (λ (r : Resolution). r.0) (take k rs))

begins_rest : (images : ImageList) (used j : ℕ) (a : Resolution) (rs : List Resolution) → Begins images used j (a ∷ rs) → Begins images (shared_after used a.0) (j + 1) rs
begins_rest images used j a rs begins k r e library some =
    let number : j + 1 + k ≡ j + suc k = omega arith in
    ap (λ (x : ℕ). index_at images x 1) number ∙ begins (suc k) r e library some

module _ (images : ImageList) (i : ℕ) where
  -- one module more in front
  range_next : (used j : ℕ) (a : Resolution) (rs : List Resolution) → Begins images used j (a ∷ rs)
      → list_any (λ (r : ℕ × ℕ). is_for_the_run i (for_the_run r)) (ranges_from images (j + 1) rs)
      ≡ (nat_le (4096 + shared_after used a.0) i && nat_lt i (4096 + fold shared_after (shared_after used a.0) (map (λ (r : Resolution). r.0) rs)))
      → (list_any (λ (r : ℕ × ℕ). is_for_the_run i (for_the_run r)) (library_range images j a.0) || list_any (λ (r : ℕ × ℕ). is_for_the_run i (for_the_run r)) (ranges_from images (j + 1) rs))
      ≡ (nat_le (4096 + used) i && nat_lt i (4096 + fold shared_after (shared_after used a.0) (map (λ (r : Resolution). r.0) rs)))
  range_next used j a rs begins rest = go (is_library a.0) refl (cases_lt 0 (length a.0.segments))
    where
      go : (t : Bool) → is_library a.0 ≡ t → (0 < length a.0.segments) ⊎ (length a.0.segments ≤ 0)
          → (list_any (λ (r : ℕ × ℕ). is_for_the_run i (for_the_run r)) (library_range images j a.0) || list_any (λ (r : ℕ × ℕ). is_for_the_run i (for_the_run r)) (ranges_from images (j + 1) rs))
          ≡ (nat_le (4096 + used) i && nat_lt i (4096 + fold shared_after (shared_after used a.0) (map (λ (r : Resolution). r.0) rs)))
      go false e cases =
          let same : shared_after used a.0 ≡ used = ap (λ (t : Bool). cond t (used + length a.0.segments) used) e in
          ap (λ (t : Bool). list_any (λ (r : ℕ × ℕ). is_for_the_run i (for_the_run r)) (cond t ((index_at images j 1, length a.0.segments) ∷ []) []) || list_any (λ (r : ℕ × ℕ). is_for_the_run i (for_the_run r)) (ranges_from images (j + 1) rs)) e
          ∙ rest ∙ ap (λ (x : ℕ). nat_le (4096 + x) i && nat_lt i (4096 + fold shared_after (shared_after used a.0) (map (λ (r : Resolution). r.0) rs))) same
      go true e (inr none) =
          let size : length a.0.segments ≡ 0 = omega (arith, none) in
          let same : shared_after used a.0 ≡ used = ap (λ (t : Bool). cond t (used + length a.0.segments) used) e ∙ (let z : used + length a.0.segments ≡ used = omega (arith, size) in z) in
          ap (λ (t : Bool). list_any (λ (r : ℕ × ℕ). is_for_the_run i (for_the_run r)) (cond t ((index_at images j 1, length a.0.segments) ∷ []) []) || list_any (λ (r : ℕ × ℕ). is_for_the_run i (for_the_run r)) (ranges_from images (j + 1) rs)) e
          ∙ ap (λ (n : ℕ). ((nat_le (index_at images j 1) i && nat_lt i (index_at images j 1 + n)) || false) || list_any (λ (r : ℕ × ℕ). is_for_the_run i (for_the_run r)) (ranges_from images (j + 1) rs)) size
          ∙ ap (λ (b : Bool). (b || false) || list_any (λ (r : ℕ × ℕ). is_for_the_run i (for_the_run r)) (ranges_from images (j + 1) rs)) (none_in (index_at images j 1) i)
          ∙ rest ∙ ap (λ (x : ℕ). nat_le (4096 + x) i && nat_lt i (4096 + fold shared_after (shared_after used a.0) (map (λ (r : Resolution). r.0) rs))) same
      go true e (inl some) =
          let more : shared_after used a.0 ≡ used + length a.0.segments = ap (λ (t : Bool). cond t (used + length a.0.segments) used) e in
          let first : index_at images j 1 ≡ 4096 + used = (let z : j ≡ j + 0 = omega arith in ap (λ (x : ℕ). index_at images x 1) z) ∙ begins 0 a refl e some in
          let end : 4096 + used + length a.0.segments ≡ 4096 + shared_after used a.0 = omega (arith, more) in
          let grows = fold_grows (map (λ (r : Resolution). r.0) rs) (shared_after used a.0) in
          ap (λ (t : Bool). list_any (λ (r : ℕ × ℕ). is_for_the_run i (for_the_run r)) (cond t ((index_at images j 1, length a.0.segments) ∷ []) []) || list_any (λ (r : ℕ × ℕ). is_for_the_run i (for_the_run r)) (ranges_from images (j + 1) rs)) e
          ∙ ap (λ (x : ℕ). ((nat_le x i && nat_lt i (x + length a.0.segments)) || false) || list_any (λ (r : ℕ × ℕ). is_for_the_run i (for_the_run r)) (ranges_from images (j + 1) rs)) first
          ∙ ap (λ (x : ℕ). ((nat_le (4096 + used) i && nat_lt i x) || false) || list_any (λ (r : ℕ × ℕ). is_for_the_run i (for_the_run r)) (ranges_from images (j + 1) rs)) end
          ∙ or_false (nat_le (4096 + used) i && nat_lt i (4096 + shared_after used a.0)) _
          ∙ ap (λ (b : Bool). (nat_le (4096 + used) i && nat_lt i (4096 + shared_after used a.0)) || b) rest
          ∙ joined (4096 + used) (4096 + shared_after used a.0) (4096 + fold shared_after (shared_after used a.0) (map (λ (r : Resolution). r.0) rs)) i (omega (arith, more)) (omega (arith, grows))
        where
          or_false : (x y : Bool) → ((x || false) || y) ≡ (x || y)
          or_false true y = refl
          or_false false y = refl

  ranges_are : (used j : ℕ) (rs : List Resolution) → Begins images used j rs
      → list_any (λ (r : ℕ × ℕ). is_for_the_run i (for_the_run r)) (ranges_from images j rs) ≡ (nat_le (4096 + used) i && nat_lt i (4096 + fold shared_after used (map (λ (r : Resolution). r.0) rs)))
  ranges_are used j [] begins = empty_range (4096 + used) i
  ranges_are used j (a ∷ rs) begins =
      list_any-append (λ (r : ℕ × ℕ). is_for_the_run i (for_the_run r)) (library_range images j a.0) (ranges_from images (j + 1) rs)
      ∙ range_next used j a rs begins (ranges_are (shared_after used a.0) (j + 1) rs (begins_rest images used j a rs begins))

resolved : (rs : List Resolution) (k : ℕ) (r : Resolution) → slice_get rs k ≡ Some r → slice_get (map (λ (r : Resolution). r.0) rs) k ≡ Some r.0
resolved rs k r e = slice_get-map (λ (r : Resolution). r.0) rs k ∙ ap (option_map (λ (r : Resolution). r.0)) e

-- each library's first segment has the index behind those of the libraries before
begins_all : (images : ImageList) → Begins images 0 1 images.modules
begins_all images k r e library some =
    let ms : List Parts = modules_of images in
    let at : slice_get (modules_of images) k ≡ Some r.0 = resolved images.modules k r e in
    let number : 1 + k ≡ k + 1 = omega arith in
    let back : k + 1 - 1 ≡ k = omega arith in
    let base : base_at (bases_of (modules_of images)) (k + 1) ≡ 4095 + fold shared_after 0 (take k (modules_of images)) =
    ap (λ (x : ℕ). get_or (bases_of (modules_of images)) x 0) back ∙ base_is 0 (modules_of images) k r.0 at ∙ ap (λ (t : Bool). cond t (4095 + fold shared_after 0 (take k (modules_of images))) 0) library in
    let index = index_is (modules_of images) (k + 1) 1 (4095 + fold shared_after 0 (take k (modules_of images))) r.0 (nth_is (modules_of images) k ∙ at) (sym base) (omega arith) (omega (arith, some)) in
    ap (λ (x : ℕ). index_at images x 1) number ∙ ap (λ (o : Option ℕ). unwrap_or o 0) (sym index)
    ∙ (let z : 4095 + fold shared_after 0 (take k (modules_of images)) + 1 ≡ 4096 + fold shared_after 0 (take k (modules_of images)) = omega arith in z)
    ∙ ap (λ (xs : List Parts). 4096 + fold shared_after 0 xs) (take-map (λ (r : Resolution). r.0) k images.modules)

-- a shared index is reserved for the run exactly where it is one of a library's segment
pub ranges_reserve : (images : ImageList) (i : ℕ) → list_any (λ (r : ℕ × ℕ). is_for_the_run i (for_the_run r)) (ranges_from images 1 images.modules)
    ≡ (nat_le 4096 i && nat_lt i (4096 + library_indexes (modules_of images)))
ranges_reserve images i = ranges_are images i 0 1 images.modules (begins_all images)

-- The index of a library's segment is one of them.

fold_front : (used k : ℕ) (ms : List Parts) → fold shared_after used (take k ms) ≤ fold shared_after used ms
fold_front used zero [] = omega arith
fold_front used zero (m ∷ ms) = fold_grows (m ∷ ms) used
fold_front used (suc k) [] = omega arith
fold_front used (suc k) (m ∷ ms) = fold_front (shared_after used m) k ms

inside_if : (a b : Bool) (x i : ℕ) → (if a && b then Some x else None) ≡ Some i → (a ≡ true) × ((b ≡ true) × (x ≡ i))
inside_if true true x i e = (refl, (refl, cc))
inside_if true false x i e = absurd (cc)
inside_if false b x i e = absurd (cc)

pub library_index : (ms : List Parts) (place n i : ℕ) (m : Parts) → nth ms place ≡ Some m → is_library m ≡ true → index_of ms place n ≡ Some i → (4096 ≤ i) × (i < 4096 + library_indexes ms)
library_index ms place n i m at library index =
    let there = nth_some ms place m at in
    let is = inside_if (nat_le 1 n) (nat_le n (length m.segments)) (base_at (bases_of ms) place + n) i (sym (ap (index_in (base_at (bases_of ms) place) n) at) ∙ index) in
    let base : base_at (bases_of ms) place ≡ 4095 + fold shared_after 0 (take (place - 1) ms) = base_is 0 ms (place - 1) m there.1 ∙ ap (λ (t : Bool). cond t (4095 + fold shared_after 0 (take (place - 1) ms)) 0) library in
    let next : fold shared_after 0 (take (place - 1 + 1) ms) ≡ fold shared_after 0 (take (place - 1) ms) + length m.segments =
    fold_take 0 (place - 1) ms m there.1 ∙ ap (λ (t : Bool). cond t (fold shared_after 0 (take (place - 1) ms) + length m.segments) (fold shared_after 0 (take (place - 1) ms))) library in
    let front = fold_front 0 (place - 1 + 1) ms in
    let low : 1 ≤ n = number_low n is.0 in
    let high : n ≤ length m.segments = number_high n (length m.segments) is.1.0 in
    let sum = is.1.1 in
    (omega (arith, base, sum, low), omega (arith, base, sum, next, front, high))
  where
    number_low : (n : ℕ) → nat_le 1 n ≡ true → 1 ≤ n
    number_low n e = grind (arith, nat_tests)

    number_high : (n c : ℕ) → nat_le n c ≡ true → n ≤ c
    number_high n c e = grind (arith, nat_tests)

-- What the loop over the places counts.

pub none_counted : (ms : List Parts) → library_indexes (take 0 ms) ≡ 0
none_counted [] = refl
none_counted (m ∷ ms) = refl

pub count_next : (ms : List Parts) (place count more : ℕ) → 1 ≤ place → count ≡ library_indexes (take (place - 1) ms) → more ≡ indexes_of (nth ms place) → count + more ≡ library_indexes (take (place + 1 - 1) ms)
count_next ms place count more low is at =
    let back : place - 1 + 1 ≡ place = omega (arith, low) in
    let on : place + 1 - 1 ≡ place - 1 + 1 = omega (arith, low) in
    let next = indexes_next ms (place - 1) in
    let here : indexes_of (nth ms (place - 1 + 1)) ≡ more = ap (λ (k : ℕ). indexes_of (nth ms k)) back ∙ sym at in
    let sum : count + more ≡ library_indexes (take (place - 1 + 1) ms) = omega (arith, next, here, is) in
    sum ∙ ap (λ (k : ℕ). library_indexes (take k ms)) (sym on)

module _ (l : LinkedParts) (images : ImageList) (consistent : IsConsistent l) (same : images ≡ l.images) where
  pub few_at : (k : ℕ) → library_indexes (take k (modules_of images)) ≤ 4096
  few_at k = subst (λ (i : ImageList). library_indexes (take k (modules_of i)) ≤ 4096) (sym same) (few_indexes (modules_of l.images) consistent.within k)

  -- one module more still leaves 4,096 at most
  pub few_next : (place count more : ℕ) → 1 ≤ place → count ≡ library_indexes (take (place - 1) (modules_of images)) → more ≡ indexes_of (nth (modules_of images) place) → count + more ≤ 4096
  few_next place count more low is at =
      let next = count_next (modules_of images) place count more low is at in
      let few = few_at (place + 1 - 1) in
      omega (arith, next, few)

  pub all_counted : (k count : ℕ) → 64 ≤ k → count ≡ library_indexes (take k (modules_of images)) → count ≡ library_indexes (modules_of l.images)
  all_counted k count enough is =
      let long = length-map l.images.modules (λ (r : Resolution). r.0) in
      let few = consistent.few in
      is ∙ ap (λ (i : ImageList). library_indexes (take k (modules_of i))) same ∙ ap library_indexes (take_all k (modules_of l.images) (omega (arith, long, few, enough)))

  pub few_counted : (k count : ℕ) → count ≡ library_indexes (take k (modules_of images)) → count ≤ 4096
  few_counted k count is = let few = few_at k in omega (arith, is, few)

-- Maps in which nothing is held and nothing reserved.

none_held : (m : Maps) (i n : ℕ) → ((pid i : ℕ) → held_at m pid i ≡ None) → some_holds m i n ≡ false
unfolding some_holds
none_held m i zero unheld = refl
none_held m i (suc n) unheld = ap (λ (o : Option Held). is_some o || some_holds m i n) (unheld (n + 1) i) ∙ none_held m i n unheld

pub none_taken : (m : Maps) → ((pid i : ℕ) → held_at m pid i ≡ None) → ((g : Region) (i : ℕ) → is_reserved m g i ≡ false) → (i : ℕ) → is_taken m Shared i ≡ false
none_taken m unheld unreserved i = ap (λ (b : Bool). b || is_reserved m Shared i) (none_held m i m.processes unheld) ∙ unreserved Shared i

module _ (m : Maps) (count : ℕ) (kept : AreKept m) (few : count ≤ 4096) (unreserved : (g : Region) (i : ℕ) → is_reserved m g i ≡ false) where
  pub shared_then : (i : ℕ) → is_reserved (with_reserved m Shared 4096 count true) Shared i ≡ (nat_le 4096 i && nat_lt i (4096 + count))
  shared_then i =
      is_reserved-with m Shared Shared 4096 count i true kept tt tt (omega (arith, few))
      ∙ ap (λ (b : Bool). if nat_le 4096 i && nat_lt i (4096 + count) then true else b) (unreserved Shared i)
      ∙ itself (nat_le 4096 i && nat_lt i (4096 + count))
    where
      itself : (t : Bool) → (if t then true else false) ≡ t
      itself true = refl
      itself false = refl

  pub own_then : (pid i : ℕ) → IsProcess m pid → is_reserved (with_reserved m Shared 4096 count true) (Private pid) i ≡ false
  own_then pid i there = is_reserved-with m Shared (Private pid) 4096 count i true kept tt there (omega (arith, few)) ∙ unreserved (Private pid) i
