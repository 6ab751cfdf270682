-- The index of the ranges by id.
use Rattle.std.specs.Prelude.{◌≡◌, ℕ, ◌==◌, List, length, Option, Some, None, if◌then◌else◌, slice_index_or}
use Rattle.o2_place.specs.declared.ranges.Range.{Range}
use Rattle.o2_place.specs.declared.places.Spot.{Spot}
use Rattle.o2_place.specs.Layout.{Layout, IsLayout, find_in, used}

abbrev pub no_spot : Spot
no_spot = record { at = 0; len = 0 }

-- a spot of length 0 is none
abbrev pub spot_of : Spot → Option (ℕ × ℕ)
spot_of s = if s.len == 0 then None else Some (s.at, s.len)

abbrev pub spot_at : List Spot → ℕ → Option (ℕ × ℕ)
spot_at ss id = spot_of (slice_index_or ss id no_spot)

abbrev pub layout_of : List Range → List Spot → ℕ → Layout
layout_of ranges spots size = record { ranges = ranges; size = size; most = length spots }

-- the index says of each id what the ranges say, and the count is that of the bytes in ranges
pub record IsPlaces (ranges : List Range) (spots : List Spot) (size taken : ℕ) : Type 0 where
  pub layout : IsLayout (layout_of ranges spots size)
  pub indexed : (id : ℕ) → spot_at spots id ≡ find_in ranges id
  pub counted : taken ≡ used ranges
