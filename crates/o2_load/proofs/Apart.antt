-- No shared index stands for two segments of linked modules: the libraries' segments lie one behind the other.
use Rattle.std.proofs.Common.{◌≡◌, ◌≢◌, ◌⊎◌, inl, inr, ℕ, zero, suc, ◌+◌, ◌-◌, ◌≤◌, ◌<◌, Bool, true, false, cond, List, [], ◌∷◌, length, get_or, Option, Some, None, ap, sym, ◌∙◌, refl, arith, subst}
use Rattle.std.specs.Prelude.{slice_get, Ok}
use Rattle.std.specs.List.{All}
use Rattle.std.proofs.lemmas.Bool.{cases_lt}
use Rattle.std.proofs.lemmas.Option.{slice_get_within}
use Rattle.o2_conf.specs.declared.conf.Conf.{Conf}
use Rattle.o2_image.specs.Getters.{is_library, nth}
use Rattle.o2_image.specs.ImageList.{ImageList}
use Rattle.o2_image.specs.Parts.{Parts}
use Rattle.o2_image.specs.Whole.{IsRunnable}
use Rattle.o2_dynlink.specs.Linking.{linked_of}
use Rattle.o2_dynlink.specs.Outcome.{LinkedParts, modules_of}
use Rattle.o2_dynlink.specs.Selectors.{shared_after, base_after, bases_from, bases_of, base_at}
use Rattle.o2_dynlink.proofs.Indexes.{nth_some}
use Rattle.o2_world.specs.Starts.{Loaded, LoadedSegment, nth_loaded}
use Rattle.o2_world.specs.FitStarts.{index_or_none, segment_index, ShareNoIndex}
use Rattle.o2_world.proofs.Keeps.{some_is}
use Rattle.o2_load.specs.Loads.{index_at, loaded_segments, loaded}
use Rattle.o2_load.proofs.Fits.{loaded_of, IsLoaded, is_loaded, program_base, none_there, at_place, index_there, runnable_at, linked_modules}

-- What is added to the numbers of a library's segments, and of those of one behind it.

library_base : (used : ℕ) (m : Parts) → is_library m ≡ true → base_after used m ≡ 4095 + used
library_base used m is = ap (λ (t : Bool). cond t (4095 + used) 0) is

library_shared : (used : ℕ) (m : Parts) → is_library m ≡ true → shared_after used m ≡ used + length m.segments
library_shared used m is = ap (λ (t : Bool). cond t (used + length m.segments) used) is

pub used_grows : (used : ℕ) (m : Parts) → used ≤ shared_after used m
used_grows used m = go (is_library m)
  where
    go : (t : Bool) → used ≤ cond t (used + length m.segments) used
    go true = omega arith
    go false = omega arith

least_base : (used : ℕ) (ms : List Parts) (k : ℕ) (m : Parts) → slice_get ms k ≡ Some m → is_library m ≡ true → 4095 + used ≤ get_or (bases_from used ms) k 0
least_base used [] k m e is = absurd (cc)
least_base used (a ∷ ms) zero m e is =
    let base = library_base used a (ap is_library (some_is a m (Some a) refl e) ∙ is) in
    omega (arith, base)
least_base used (a ∷ ms) (suc k) m e is =
    let low = least_base (shared_after used a) ms k m e is in
    let grows = used_grows used a in
    omega (arith, low, grows)

bases_rise : (used : ℕ) (ms : List Parts) (k j : ℕ) (a b : Parts) → slice_get ms k ≡ Some a → slice_get ms j ≡ Some b → is_library a ≡ true → is_library b ≡ true → k < j
    → get_or (bases_from used ms) k 0 + length a.segments ≤ get_or (bases_from used ms) j 0
bases_rise used [] k j a b e f x y less = absurd (cc)
bases_rise used (m ∷ ms) k zero a b e f x y less = absurd (omega (arith, less))
bases_rise used (m ∷ ms) zero (suc j) a b e f x y less =
    let same : m ≡ a = some_is m a (Some m) refl e in
    let base = library_base used m (ap is_library same ∙ x) in
    let shared : shared_after used m ≡ used + length a.segments = library_shared used m (ap is_library same ∙ x) ∙ ap (λ (p : Parts). used + length p.segments) same in
    let low = least_base (shared_after used m) ms j b f y in
    omega (arith, base, shared, low)
bases_rise used (m ∷ ms) (suc k) (suc j) a b e f x y less = bases_rise (shared_after used m) ms k j a b e f x y (omega (arith, less))

-- A shared index is that of a library's segment.

record IsShared (ms : List Parts) (place n i : ℕ) : Type 0 where
  parts : Parts
  some : place ≢ 0
  at : slice_get ms (place - 1) ≡ Some parts
  library : is_library parts ≡ true
  first : 1 ≤ n
  last : n ≤ length parts.segments
  index : i ≡ base_at (bases_of ms) place + n

module _ (images : ImageList) (ms : List Parts) (same : modules_of images ≡ ms) (all : All IsRunnable ms) where
  shared_from : (place n : ℕ) (m : Parts) (x : LoadedSegment) → nth ms place ≡ Some m → nth_loaded n (loaded_segments images place m 1 m.segments) ≡ Some x → 4096 ≤ x.index → IsShared ms place n x.index
  shared_from place n m x at h big =
      record { parts = m; some = there.0; at = there.1; library = library (is_library m) refl; first = omega (arith, some); last = omega (arith, some, within); index = index }
    where
      there : (place ≢ 0) × (slice_get ms (place - 1) ≡ Some m)
      there = nth_some ms place m at

      number : (n ≢ 0) × (slice_get (loaded_segments images place m 1 m.segments) (n - 1) ≡ Some x)
      number = nth_some (loaded_segments images place m 1 m.segments) n x h

      some : n ≢ 0
      some = number.0

      y : IsLoaded images place m.segments 1 (n - 1) x
      y = is_loaded images place m 1 m.segments (n - 1) x number.1

      within : n - 1 < length m.segments
      within = slice_get_within m.segments (n - 1) y.segment y.there

      back : 1 + (n - 1) ≡ n
      back = omega (arith, some)

      index : x.index ≡ base_at (bases_of ms) place + n
      index = y.index ∙ ap (index_at images place) back ∙ index_there images ms same place n m at (omega (arith, some)) (omega (arith, some, within))

      library : (t : Bool) → is_library m ≡ t → is_library m ≡ true
      library true is = is
      library false is =
          let base : base_at (bases_of ms) place ≡ 0 = program_base 0 ms (place - 1) m there.1 is in
          let few = (runnable_at ms place all m at).few in
          absurd (omega (arith, base, few, index, big, some, within))

  shared_in : (place n : ℕ) (o : Option Parts) → nth ms place ≡ o → 4096 ≤ index_or_none (nth_loaded n (loaded_of images place o).segments)
      → IsShared ms place n (index_or_none (nth_loaded n (loaded_of images place o).segments))
  shared_in place n None at big = go (nth_loaded n []) (λ x e. none_there n x e) big
    where
      go : (o : Option LoadedSegment) → ((x : LoadedSegment) → o ≡ Some x → ⊥) → 4096 ≤ index_or_none o → IsShared ms place n (index_or_none o)
      go None none big = absurd (omega (arith, big))
      go (Some x) none big = absurd (none x refl)
  shared_in place n (Some m) at big = go (nth_loaded n (loaded_segments images place m 1 m.segments)) refl big
    where
      go : (o : Option LoadedSegment) → nth_loaded n (loaded_segments images place m 1 m.segments) ≡ o → 4096 ≤ index_or_none o → IsShared ms place n (index_or_none o)
      go None e big = absurd (omega (arith, big))
      go (Some x) e big = shared_from place n m x at e big

  is_shared : (place n : ℕ) → 4096 ≤ segment_index (loaded images) place n → IsShared ms place n (segment_index (loaded images) place n)
  is_shared place n big =
      let is : loaded images place ≡ loaded_of images place (nth ms place) = at_place images ms same place (nth ms place) refl in
      subst (λ (l : Loaded). IsShared ms place n (index_or_none (nth_loaded n l.segments))) (sym is)
      (shared_in place n (nth ms place) refl (subst (λ (l : Loaded). 4096 ≤ index_or_none (nth_loaded n l.segments)) is big))

  modules_apart : ShareNoIndex (loaded images)
  modules_apart p n q m big e =
      let a = is_shared p n big in
      let b = is_shared q m (subst (λ (k : ℕ). 4096 ≤ k) e big) in
      let some : p ≢ 0 = a.some in
      let other : q ≢ 0 = b.some in
      let here : p ≡ q = either (p - 1) (q - 1) (λ less. below p n q m _ _ a b e less) (λ less. below q m p n _ _ b a (sym e) less) (λ equal. omega (arith, some, other, equal)) in
      let base : base_at (bases_of ms) p ≡ base_at (bases_of ms) q = ap (base_at (bases_of ms)) here in
      let i = a.index in
      let j = b.index in
      (here, omega (arith, base, i, j, e))
    where
      either : {P : Type 0} (k j : ℕ) → (k < j → ⊥) → (j < k → ⊥) → (k ≡ j → P) → P
      either {P} k j f g h = first (cases_lt k j)
        where
          second : (j < k) ⊎ (k ≤ j) → j ≤ k → P
          second (inl less) most = absurd (g less)
          second (inr least) most = h (omega (arith, most, least))

          first : (k < j) ⊎ (j ≤ k) → P
          first (inl less) = absurd (f less)
          first (inr most) = second (cases_lt j k) most

      below : (p n q m i j : ℕ) → IsShared ms p n i → IsShared ms q m j → i ≡ j → p - 1 < q - 1 → ⊥
      below p n q m i j a b e less =
          let rise = bases_rise 0 ms (p - 1) (q - 1) a.parts b.parts a.at b.at a.library b.library less in
          let x = a.index in
          let y = b.index in
          let last = a.last in
          let first = b.first in
          omega (arith, rise, x, y, last, first, e)

pub linked_apart : (ms : List Parts) (c : Conf) (l : LinkedParts) → All IsRunnable ms → linked_of ms c ≡ Ok l → ShareNoIndex (loaded l.images)
linked_apart ms c l all e = modules_apart l.images ms (linked_modules ms c l e) all
