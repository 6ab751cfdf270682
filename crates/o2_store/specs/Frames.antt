-- What a call asks of a store and its swap device, and what becomes of the device.
use Rattle.std.specs.Prelude.{◌≡◌, ℕ, ◌≤◌, Bool, IsTrue}
use Rattle.o2_image.specs.ImageList.{ImageList}
use Rattle.o2_outer.specs.Texts.{Rose}
use Rattle.o2_swapmap.specs.Piles.{all_of}
use Rattle.o2_store.specs.Pictures.{picture}
use Rattle.o2_store.specs.Shelf.{AreClean, Shelf}

-- each clean segment in memory has the bytes of its image, and the device has all blocks of the map
pub record IsBacked (s : Shelf) (images : ImageList) (blocks : ℕ) : Type 0 where
  pub clean : AreClean s (picture images)
  pub device : all_of s.swap ≤ blocks

-- What becomes of a device: it has as many blocks, tells what it holds only where it did so before, its count of faults never
-- falls, and where the call answers that it failed the count rose.
pub record KeepsDevice {D : Type 0} (count : D → ℕ) (tells : D → Bool) (failures : D → ℕ) (before after : D) (failed : Type 0) : Type 0 where
  pub blocks : count after ≡ count before
  pub told : IsTrue (tells after) → IsTrue (tells before)
  pub faults : failures before ≤ failures after
  pub cause : failed → Rose (failures before) (failures after)
