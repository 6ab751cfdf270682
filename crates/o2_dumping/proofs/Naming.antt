-- The images that are named are those of the store's entries.
use Rattle.std.proofs.Common.{◌≡◌, ℕ, List, [], ◌∷◌, Bool, true, false, Option, Some, None, cond, map, refl}
use Rattle.std.specs.Prelude.{◌==◌}
use Rattle.o2_store.specs.declared.brought.Place.TheVariants as there
use Rattle.o2_store.specs.Shelf.{HasAll, Shelf, entry, place_of, shown_at, shown_out}
use Rattle.o2_dumping.specs.Named.{AreNamed, IsPlaceNamed}
use Rattle.o2_dumping.specs.Told.{blocks_told, place_told, segment_told}

module _ (s : Shelf) (block : ℕ → List ℕ) (has : ℕ → ℕ → Type 0) (all : HasAll has s) where
  module _ (n : ℕ) where
    out_named : (o : Option (ℕ × ℕ)) → (entry s n).image ≡ o → IsPlaceNamed has (place_told (shown_out o (entry s n).kept) (blocks_told s block n))
    out_named (Some p) is = all n p.0 p.1 is
    out_named None is = by ((entry s n).kept == 0)
      where
        by : (b : Bool) → IsPlaceNamed has (place_told (cond b there.Zeros there.Blocks) (blocks_told s block n))
        by true = tt
        by false = tt

    place_named : (range : Option (ℕ × ℕ)) → IsPlaceNamed has (place_told (shown_at range (entry s n)) (blocks_told s block n))
    place_named (Some r) = tt
    place_named None = out_named (entry s n).image refl

    segment_named : IsPlaceNamed has (segment_told s block n).place
    unfolding segment_told
    segment_named = place_named (place_of s n)

  pub segments_named : (ns : List ℕ) → AreNamed has (map (segment_told s block) ns)
  segments_named [] = tt
  segments_named (n ∷ ns) = (segment_named n, segments_named ns)
