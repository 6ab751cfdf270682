-- Stores as tests have them.
use Rattle.std.specs.Prelude.{◌≤◌, ℕ}
use Rattle.o2_image.specs.ImageList.{ImageList}
use Rattle.o2_swapmap.specs.Piles.{all_of}
use Rattle.o2_store.specs.Pictures.{picture, HasPicture}
use Rattle.o2_store.specs.Shelf.{Shelf, HasAll, AreClean}

-- the images are there, clean segments in memory have their bytes, and a device of so many blocks has the map's
pub record IsReady (s : Shelf) (images : ImageList) (blocks : ℕ) : Type 0 where
  pub pictured : HasAll (HasPicture images) s
  pub clean : AreClean s (picture images)
  pub device : all_of s.swap ≤ blocks
