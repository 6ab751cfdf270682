-- What goes on to hold of a store and of the tables behind a call.
use Rattle.std.specs.Prelude.{◌≡◌}
use Rattle.o2_image.specs.ImageList.{ImageList}
use Rattle.o2_regions.specs.Maps.{Maps}
use Rattle.o2_store.specs.Idle.{NoneTaken}
use Rattle.o2_store.specs.Pictures.{HasPicture, picture}
use Rattle.o2_store.specs.Shelf.{AreClean, HasAll, Pictures, Shelf}
use Rattle.o2_swapmap.specs.Piles.{all_of}
use Rattle.o2_changes.specs.Order.{IsGuarded, IsInOrder}

-- Behind a change the store and the tables agree, and what held of guards, of clean segments, of images and of the map of blocks goes on
-- to hold, whatever the images are; the device isn't asked.
pub record KeepsOrder (s : Shelf) (m : Maps) (t : Shelf) (n : Maps) : Type 0 where
  pub order : IsInOrder t n
  pub guards : IsGuarded s m → IsGuarded t n
  pub clean : (pic : Pictures) → AreClean s pic → AreClean t pic
  pub pictures : (images : ImageList) → HasAll (HasPicture images) s → HasAll (HasPicture images) t
  pub map : all_of t.swap ≡ all_of s.swap
  pub unused : NoneTaken s.swap → NoneTaken t.swap

-- The same behind a change that may bring segments in from these images, and from the device.
pub record KeepsOrderFor (images : ImageList) (s : Shelf) (m : Maps) (t : Shelf) (n : Maps) : Type 0 where
  pub order : IsInOrder t n
  pub guards : IsGuarded s m → IsGuarded t n
  pub clean : AreClean t (picture images)
  pub pictures : (list : ImageList) → HasAll (HasPicture list) s → HasAll (HasPicture list) t
  pub map : all_of t.swap ≡ all_of s.swap
