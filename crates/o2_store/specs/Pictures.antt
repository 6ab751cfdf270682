-- The bytes of images, as the store sees them.
use Rattle.std.specs.Prelude.{ℕ, ◌+◌, slice_index_or}
use Rattle.o2_image.specs.ImageList.{ImageList, HasImage, image_front}

-- byte j of an image: that of segment `seg` of the module at place `m`, or, where that is 0, of an environment
unfoldable pub picture : ImageList → ℕ → ℕ → ℕ → ℕ
picture images m seg j = slice_index_or (image_front images m seg (j + 1)) j 0

-- there is such an image
unfoldable pub HasPicture : ImageList → ℕ → ℕ → Type 0
HasPicture images m seg = HasImage images m seg
