-- The indexes of the segments of all libraries are reserved from the opening on.
use Rattle.std.proofs.Common.{◌≡◌, ◌≢◌, ℕ, zero, suc, ◌+◌, ◌-◌, ◌≤◌, ◌&&◌, ◌||◌, nat_le, nat_lt, Bool, true, false, List, [], ◌∷◌, ◌++◌, length, map, Some, ap, sym, ◌∙◌, refl, arith, subst, Ok}
use Rattle.std.specs.Prelude.{slice_get, option_map}
use Rattle.std.specs.List.{list_any}
use Rattle.std.proofs.lemmas.Option.{slice_get-map}
use Rattle.o2_conf.specs.declared.conf.Conf.{Conf}
use Rattle.o2_image.specs.Getters.{is_library, nth}
use Rattle.o2_image.specs.ImageList.{ImageList, Resolution}
use Rattle.o2_image.specs.Parts.{Parts}
use Rattle.o2_dynlink.specs.Outcome.{LinkedParts, modules_of}
use Rattle.o2_dynlink.specs.Linking.{linked_of}
use Rattle.o2_dynlink.specs.Selectors.{bases_of, base_at}
use Rattle.o2_dynlink.proofs.Indexes.{nth_some}
use Rattle.o2_world.specs.Starts.{for_the_run}
use Rattle.o2_world.specs.Known.{is_for_the_run}
use Rattle.o2_load.specs.Loads.{index_at, library_range, ranges_from, library_ranges}
use Rattle.o2_load.proofs.Fits.{index_there, linked_modules}

-- an index is reserved by a range
abbrev pub is_in : ℕ → ℕ × ℕ → Bool
is_in i r = is_for_the_run i (for_the_run r)

pub any_map : (i : ℕ) (rs : List (ℕ × ℕ)) → list_any (is_for_the_run i) (map for_the_run rs) ≡ list_any (is_in i) rs
any_map i [] = refl
any_map i (r ∷ rs) = ap (λ (b : Bool). is_in i r || b) (any_map i rs)

or_left : (a b : Bool) → a ≡ true → (a || b) ≡ true
or_left true b e = refl
or_left false b e = absurd (cc)

or_right : (a b : Bool) → b ≡ true → (a || b) ≡ true
or_right true b e = refl
or_right false b e = e

or_more : (a b c d : Bool) → d ≡ (b || c) → (a || d) ≡ ((a || b) || c)
or_more true b c d e = refl
or_more false b c d e = e

any_append : (P : ℕ × ℕ → Bool) (xs ys : List (ℕ × ℕ)) → list_any P (xs ++ ys) ≡ (list_any P xs || list_any P ys)
any_append P [] ys = refl
any_append P (x ∷ xs) ys = or_more (P x) (list_any P xs) (list_any P ys) (list_any P (xs ++ ys)) (any_append P xs ys)

reserved_at : (images : ImageList) (P : ℕ × ℕ → Bool) (rs : List Resolution) (j k : ℕ) (m : Parts) → option_map (λ (r : Resolution). r.0) (slice_get rs k) ≡ Some m
    → list_any P (library_range images (j + k) m) ≡ true → list_any P (ranges_from images j rs) ≡ true
reserved_at images P [] j k m e h = absurd (cc)
reserved_at images P (r ∷ rs) j zero m e h =
    let same : m ≡ r.0 = cc in
    let number : j + 0 ≡ j = omega arith in
    any_append P (library_range images j r.0) (ranges_from images (j + 1) rs)
    ∙ or_left _ _ (subst (λ (x : Parts). list_any P (library_range images j x) ≡ true) same (subst (λ (n : ℕ). list_any P (library_range images n m) ≡ true) number h))
reserved_at images P (r ∷ rs) j (suc k) m e h =
    let number : j + suc k ≡ j + 1 + k = omega arith in
    any_append P (library_range images j r.0) (ranges_from images (j + 1) rs)
    ∙ or_right _ _ (reserved_at images P rs (j + 1) k m e (subst (λ (n : ℕ). list_any P (library_range images n m) ≡ true) number h))

inside : (b n c : ℕ) → 1 ≤ n → n ≤ c → ((nat_le (b + 1) (b + n) && nat_lt (b + n) (b + 1 + c)) || false) ≡ true
inside b n c low high = grind arith

module _ (images : ImageList) (ms : List Parts) (same : modules_of images ≡ ms) where
  one_reserved : (place n : ℕ) (m : Parts) → nth ms place ≡ Some m → is_library m ≡ true → 1 ≤ n → n ≤ length m.segments
      → list_any (is_in (index_at images place n)) (library_range images place m) ≡ true
  one_reserved place n m at is low high =
      let here = index_there images ms same place n m at low high in
      let first = index_there images ms same place 1 m at (omega arith) (omega (arith, low, high)) in
      rw (is, here, first) (inside (base_at (bases_of ms) place) n (length m.segments) low high)

  pub libraries_reserved : (place n : ℕ) (m : Parts) → nth ms place ≡ Some m → is_library m ≡ true → 1 ≤ n → n ≤ length m.segments
      → list_any (is_in (index_at images place n)) (ranges_from images 1 images.modules) ≡ true
  libraries_reserved place n m at is low high =
      let there = nth_some ms place m at in
      let some : place ≢ 0 = there.0 in
      let number : place ≡ 1 + (place - 1) = omega (arith, some) in
      let one = one_reserved place n m at is low high in
      reserved_at images (is_in (index_at images place n)) images.modules 1 (place - 1) m
      (sym (slice_get-map (λ (r : Resolution). r.0) images.modules (place - 1)) ∙ ap (λ (xs : List Parts). slice_get xs (place - 1)) same ∙ there.1)
      (subst (λ (k : ℕ). list_any (is_in (index_at images place n)) (library_range images k m) ≡ true) number one)

pub linked_reserved : (ms : List Parts) (c : Conf) (l : LinkedParts) → linked_of ms c ≡ Ok l → (place n : ℕ) (m : Parts) → nth ms place ≡ Some m → is_library m ≡ true → 1 ≤ n → n ≤ length m.segments
    → list_any (is_for_the_run (index_at l.images place n)) (map for_the_run (library_ranges l)) ≡ true
linked_reserved ms c l e place n m at is low high = any_map (index_at l.images place n) (library_ranges l) ∙ libraries_reserved l.images ms (linked_modules ms c l e) place n m at is low high
