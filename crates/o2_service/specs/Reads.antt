-- Which swap blocks are read for segments that come into memory.
use Rattle.std.specs.Prelude.{◌≡◌, ℕ, ◌<◌, ◌++◌, ◌==◌, List, length, None, true, slice_index_or}
use Rattle.std.specs.List.{All, IsDistinct}
use Rattle.o2_place.specs.declared.seg_id.SegId.{SegId}
use Rattle.o2_swapmap.specs.Piles.{blocks_of}
use Rattle.o2_store.specs.Shelf.{Shelf, place_of}
use Rattle.o2_service.specs.Needs.{needs}

-- a block of a segment that is needed and out of memory
pub record IsOfNeeded (s : Shelf) (need : List (SegId × ℕ)) (block : ℕ) : Type 0 where
  pub key : ℕ
  pub needed : needs need key ≡ true
  pub out : place_of s key ≡ None
  pub rank : ℕ
  pub within : rank < length (blocks_of s.swap key)
  pub is : slice_index_or (blocks_of s.swap key) rank 0 ≡ block

-- only such blocks are asked for, and none twice
pub record AsksForNeeded (s : Shelf) (need : List (SegId × ℕ)) (before after : List ℕ) : Type 0 where
  pub blocks : List ℕ
  pub asked : after ≡ before ++ blocks
  pub those : All (λ b. IsOfNeeded s need b) blocks
  pub once : IsDistinct (λ a b. a == b) blocks
