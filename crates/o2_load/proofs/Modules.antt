-- The segments of a module, one after the other, and those of libraries.
use Rattle.std.proofs.Common.{◌≡◌, ℕ, zero, suc, ◌≤◌, ◌<◌, ◌+◌, List, [], ◌∷◌, ◌++◌, length, take, drop, get_or, Some, ap, sym, ◌∙◌, refl, arith, subst, append-nil}
use Rattle.std.specs.Prelude.{slice_get, map, Result, Ok, Err}
use Rattle.std.proofs.lemmas.List.{map-append}
use Rattle.std.proofs.lemmas.Grind.{flat_map-append}
use Rattle.o2_base.specs.declared.memory.Fail.{Fail}
use Rattle.o2_base.specs.declared.faults.ModuleFault.{ModuleFault}
use Rattle.o2_ne_segs.specs.declared.segment.Segment.{Segment}
use Rattle.o2_ne_segs.specs.SegmentTable.{nth_segment}
use Rattle.o2_image.specs.ImageList.{ImageList}
use Rattle.o2_image.specs.Parts.{Parts}
use Rattle.o2_world.proofs.Keeps.{some_is}
use Rattle.o2_world.specs.Starts.{Loaded, Holding, holding_of, module_holdings, library_holdings}
use Rattle.o2_load.specs.Holds.{Names, Stage, Adds, AddsAll}
use Rattle.o2_load.specs.Loads.{loaded, loaded_segment, loaded_segments, loaded_module, segment_holding, segment_holdings, all_holdings}
use Rattle.o2_load.proofs.Steps.{adds_then, adds_refused, adds_next, adds_next_refused}

module _ (images : ImageList) (place : ℕ) (m : Parts) (l : Loaded) where
  holdings_length : (n : ℕ) (ss : List Segment) → length (module_holdings l n (loaded_segments images place m n ss)) ≡ length ss
  holdings_length n [] = refl
  holdings_length n (s ∷ ss) = ap suc (holdings_length (n + 1) ss)

  holding_is : (n : ℕ) (ss : List Segment) (k j : ℕ) (s : Segment) (d : Holding) → slice_get ss k ≡ Some s → j ≡ n + k
      → get_or (module_holdings l n (loaded_segments images place m n ss)) k d ≡ holding_of l j (loaded_segment images place m j s)
  holding_is n [] k j s d e f = absurd (cc)
  holding_is n (x ∷ ss) zero j s d e f =
      let same : n ≡ j = omega (arith, f) in
      ap (λ (i : ℕ). holding_of l i (loaded_segment images place m i x)) same ∙ ap (λ (y : Segment). holding_of l j (loaded_segment images place m j y)) (some_is x s (Some x) refl e)
  holding_is n (x ∷ ss) (suc k) j s d e f = holding_is (n + 1) ss k j s d e (omega (arith, f))

there : (ss : List Segment) (k : ℕ) → k < length ss → (s : Segment) × (slice_get ss k ≡ Some s)
there [] k h = absurd (omega (arith, h))
there (s ∷ ss) zero h = (s, refl)
there (s ∷ ss) (suc k) h = there ss k (omega (arith, h))

nth_next : (ss : List Segment) (k : ℕ) → nth_segment (k + 1) ss ≡ slice_get ss k
nth_next ss k = grind arith

module _ (first mid last : Names) (a m z : Stage) (pid : ℕ) (images : ImageList) (place : ℕ) (parts : Parts) (k : ℕ) (less : k < length parts.segments) where
  hs : List Holding
  hs = segment_holdings images place parts

  at : (s : Segment) × (slice_get parts.segments k ≡ Some s)
  at = there parts.segments k less

  h : Holding
  h = segment_holding images place parts (k + 1) at.0

  within : k < length hs
  unfolding hs
  within = let size = holdings_length images place parts (loaded_module images place parts) 1 parts.segments in omega (arith, less, size)

  item : get_or hs k h ≡ h
  unfolding hs h
  item = holding_is images place parts (loaded_module images place parts) 1 parts.segments k (k + 1) at.0 (segment_holding images place parts (k + 1) at.0) at.1 (omega arith)

  -- one segment more
  pub steps_next : (r : Result (Unit {0}) (Fail ModuleFault)) → AddsAll first a mid m pid (take k (segment_holdings images place parts)) (Ok tt)
      → ((s : Segment) → nth_segment (k + 1) parts.segments ≡ Some s → Adds mid m last z pid (segment_holding images place parts (k + 1) s) r)
      → AddsAll first a last z pid (take (k + 1) (segment_holdings images place parts)) r
  unfolding hs h
  steps_next r before step = adds_next first mid last a m z pid hs k h r within item before (step at.0 (nth_next parts.segments k ∙ at.1))

  -- it may be refused
  pub steps_refused : (e : Fail ModuleFault) → AddsAll first a mid m pid (take k (segment_holdings images place parts)) (Ok tt)
      → ((s : Segment) → nth_segment (k + 1) parts.segments ≡ Some s → Adds mid m last z pid (segment_holding images place parts (k + 1) s) (Err e))
      → AddsAll first a last z pid (segment_holdings images place parts) (Err e)
  unfolding hs h
  steps_refused e before step = adds_next_refused first mid last a m z pid hs k h e within item before (step at.0 (nth_next parts.segments k ∙ at.1))

take_all : {X : Type 0} (xs : List X) (k : ℕ) → length xs ≤ k → take k xs ≡ xs
take_all [] zero h = refl
take_all [] (suc k) h = refl
take_all (x ∷ xs) zero h = absurd (omega (arith, h))
take_all (x ∷ xs) (suc k) h = ap (λ (z : List _). x ∷ z) (take_all xs k (omega (arith, h)))

-- all of them
pub steps_all : (first last : Names) (a z : Stage) (pid : ℕ) (images : ImageList) (place : ℕ) (parts : Parts) (k : ℕ) (r : Result (Unit {0}) (Fail ModuleFault)) → length parts.segments ≤ k
    → AddsAll first a last z pid (take k (segment_holdings images place parts)) r → AddsAll first a last z pid (segment_holdings images place parts) r
steps_all first last a z pid images place parts k r full adds =
    let size : length (segment_holdings images place parts) ≡ length parts.segments = holdings_length images place parts (loaded_module images place parts) 1 parts.segments in
    subst (λ (hs : List Holding). AddsAll first a last z pid hs r) (take_all (segment_holdings images place parts) k (omega (arith, full, size))) adds

-- The libraries at some places.

take_place : (places : List ℕ) (k p : ℕ) → k < length places → p ≡ get_or places k 0 → take (k + 1) places ≡ take k places ++ p ∷ []
take_place [] k p less e = absurd (omega (arith, less))
take_place (q ∷ places) zero p less e = ap (λ (n : ℕ). n ∷ []) (sym e)
take_place (q ∷ places) (suc k) p less e =
    let one : suc k + 1 ≡ suc (k + 1) = omega arith in
    ap (λ (n : ℕ). take n (q ∷ places)) one ∙ ap (λ (xs : List ℕ). q ∷ xs) (take_place places k p (omega (arith, less)) e)

split_places : (places : List ℕ) (k : ℕ) → places ≡ take k places ++ drop k places
split_places [] zero = refl
split_places [] (suc k) = refl
split_places (p ∷ places) zero = refl
split_places (p ∷ places) (suc k) = ap (λ (xs : List ℕ). p ∷ xs) (split_places places k)

module _ (images : ImageList) where
  -- what all libraries at these places hold
  abbrev pub held_at : List ℕ → List Holding
  held_at places = library_holdings (map (loaded images) places)

  held_append : (xs ys : List ℕ) → held_at (xs ++ ys) ≡ held_at xs ++ held_at ys
  held_append xs ys =
      ap (λ (ms : List Loaded). library_holdings ms) (map-append (loaded images) xs ys) ∙ flat_map-append (λ (m : Loaded). module_holdings m 1 m.segments) (map (loaded images) xs) (map (loaded images) ys)

  held_one : (p : ℕ) → held_at (p ∷ []) ≡ all_holdings (loaded images p)
  held_one p = append-nil (all_holdings (loaded images p))

  module _ (first mid last : Names) (a m z : Stage) (pid : ℕ) (places : List ℕ) (k p : ℕ) (less : k < length places) (item : p ≡ get_or places k 0) where
    pub libraries_next : (r : Result (Unit {0}) (Fail ModuleFault)) → AddsAll first a mid m pid (held_at (take k places)) (Ok tt) → AddsAll mid m last z pid (all_holdings (loaded images p)) r
        → AddsAll first a last z pid (held_at (take (k + 1) places)) r
    libraries_next r front step =
        adds_then first mid last a m z pid (held_at (take k places)) (all_holdings (loaded images p)) (held_at (take (k + 1) places)) r
        (ap held_at (take_place places k p less item) ∙ held_append (take k places) (p ∷ []) ∙ ap (λ (hs : List Holding). held_at (take k places) ++ hs) (held_one p)) front step

    pub libraries_refused : (e : Fail ModuleFault) → AddsAll first a mid m pid (held_at (take k places)) (Ok tt) → AddsAll mid m last z pid (all_holdings (loaded images p)) (Err e)
        → AddsAll first a last z pid (held_at places) (Err e)
    libraries_refused e front step =
        adds_refused first last last a z z pid (held_at (take (k + 1) places)) (held_at (drop (k + 1) places)) (held_at places) e
        (ap held_at (split_places places (k + 1)) ∙ held_append (take (k + 1) places) (drop (k + 1) places)) (libraries_next (Err e) front step)

  pub libraries_all : (first last : Names) (a z : Stage) (pid : ℕ) (places : List ℕ) (k : ℕ) (r : Result (Unit {0}) (Fail ModuleFault)) → length places ≤ k
      → AddsAll first a last z pid (held_at (take k places)) r → AddsAll first a last z pid (held_at places) r
  libraries_all first last a z pid places k r full adds = subst (λ (xs : List ℕ). AddsAll first a last z pid (held_at xs) r) (take_all places k full) adds
