-- Modules, starts and reserved indexes go by the modules alone, whatever environments the images have.
use Rattle.std.proofs.Common.{◌≡◌, refl, ◌∙◌, ap, ℕ, ◌+◌, ◌-◌, ◌==◌, Bool, true, false, cond, List, [], ◌∷◌, ◌++◌}
use Rattle.std.specs.Prelude.{Option, Some, None, map, slice_get}
use Rattle.o2_ne_segs.specs.declared.segment.Segment.{Segment}
use Rattle.o2_image.specs.Getters.{nth, nth_list}
use Rattle.o2_image.specs.ImageList.{ImageList, Resolution, image_front, module_front}
use Rattle.o2_image.specs.Images.{image}
use Rattle.o2_image.specs.Parts.{Parts}
use Rattle.o2_world.specs.Starts.{Loaded, LoadedSegment}
use Rattle.o2_load.specs.Loads.{library_range, loaded, loaded_at, loaded_module, loaded_segment, loaded_segments, ranges_from}

abbrev pub images_of : List Resolution → List (List ℕ) → ImageList
images_of modules environments = record { modules = modules; environments = environments }

module _ (modules : List Resolution) (es fs : List (List ℕ)) where
  abbrev one : ImageList
  one = images_of modules es

  abbrev two : ImageList
  two = images_of modules fs

  pub same_ranges : (place : ℕ) (rs : List Resolution) → ranges_from one place rs ≡ ranges_from two place rs
  same_ranges place [] = refl
  same_ranges place (r ∷ rs) = ap (λ (xs : List (ℕ × ℕ)). library_range one place r.0 ++ xs) (same_ranges (place + 1) rs)

  front_same : (place n size : ℕ) → (place == 0) ≡ false → image_front one place n size ≡ image_front two place n size
  front_same place n size some = go (place == 0) some
    where
      go : (t : Bool) → t ≡ false → cond t (image (nth_list es n) [] size) (module_front (nth modules place) n size) ≡ cond t (image (nth_list fs n) [] size) (module_front (nth modules place) n size)
      go true e = cc
      go false e = refl

  segments_same : (place : ℕ) (m : Parts) (n : ℕ) (ss : List Segment) → (place == 0) ≡ false → loaded_segments one place m n ss ≡ loaded_segments two place m n ss
  segments_same place m n [] some = refl
  segments_same place m n (s ∷ ss) some =
      ap (λ (bs : List ℕ). record (loaded_segment one place m n s) { image = bs } ∷ loaded_segments one place m (n + 1) ss) (front_same place n s.size some)
      ∙ ap (λ (xs : List LoadedSegment). loaded_segment two place m n s ∷ xs) (segments_same place m (n + 1) ss some)

  pub same_loaded : (place : ℕ) → loaded one place ≡ loaded two place
  same_loaded place = by_place (place == 0) refl
    where
      by_module : (place == 0) ≡ false → (o : Option Resolution) → loaded_at one place o ≡ loaded_at two place o
      by_module some None = refl
      by_module some (Some r) = ap (λ (ss : List LoadedSegment). record (loaded_module one place r.0) { segments = ss }) (segments_same place r.0 1 r.0.segments some)

      by_place : (t : Bool) → (place == 0) ≡ t → loaded_at one place (cond t None (slice_get modules (place - 1))) ≡ loaded_at two place (cond t None (slice_get modules (place - 1)))
      by_place true none = refl
      by_place false some = by_module some (slice_get modules (place - 1))

  pub same_libraries : (places : List ℕ) → map (loaded one) places ≡ map (loaded two) places
  same_libraries [] = refl
  same_libraries (p ∷ ps) = ap (λ (m : Loaded). m ∷ map (loaded one) ps) (same_loaded p) ∙ ap (λ (ms : List Loaded). loaded two p ∷ ms) (same_libraries ps)
