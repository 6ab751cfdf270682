-- What goes on to hold where nothing changes, and behind one change and another.
use Rattle.std.proofs.Common.{◌≡◌, ℕ, ◌∙◌, arith, refl, subst, sym}
use Rattle.o2_image.specs.ImageList.{ImageList}
use Rattle.o2_regions.specs.Maps.{Maps}
use Rattle.o2_store.specs.Pictures.{picture}
use Rattle.o2_store.specs.Shelf.{AreClean, Shelf}
use Rattle.o2_store.specs.Frames.{IsBacked}
use Rattle.o2_changes.specs.Frames.{KeepsOrder, KeepsOrderFor}
use Rattle.o2_changes.specs.Order.{IsGuarded, IsInOrder}

-- nothing changes
pub order_refl : (s : Shelf) (m : Maps) → IsInOrder s m → KeepsOrder s m s m
order_refl s m order = record {
  order = order;
  guards = λ was. was;
  clean = λ pic was. was;
  pictures = λ images was. was;
  map = refl;
  unused = λ none. none;
}

-- the tables alone change
pub order_held : (s : Shelf) (m n : Maps) → IsInOrder s n → (IsGuarded s m → IsGuarded s n) → KeepsOrder s m s n
order_held s m n order guards = record {
  order = order;
  guards = guards;
  clean = λ pic was. was;
  pictures = λ images was. was;
  map = refl;
  unused = λ none. none;
}

-- the store behind it is told as another one
pub order_as : (s t u : Shelf) (m n : Maps) → u ≡ t → KeepsOrder s m t n → KeepsOrder s m u n
order_as s t u m n same k = subst (λ (x : Shelf). KeepsOrder s m x n) (sym same) k

-- the tables behind it are told as others
pub maps_as : (s t : Shelf) (l m n : Maps) → n ≡ m → KeepsOrder s l t m → KeepsOrder s l t n
maps_as s t l m n same k = subst (λ (x : Maps). KeepsOrder s l t x) (sym same) k

pub order_trans : (s t u : Shelf) (l m n : Maps) → KeepsOrder s l t m → KeepsOrder t m u n → KeepsOrder s l u n
order_trans s t u l m n a b = record {
  order = b.order;
  guards = λ was. b.guards (a.guards was);
  clean = λ pic was. b.clean pic (a.clean pic was);
  pictures = λ images was. b.pictures images (a.pictures images was);
  map = b.map ∙ a.map;
  unused = λ none. b.unused (a.unused none);
}

-- the same for the images of a call: nothing changes, a change that asks for no image, and one behind another

pub for_refl : (images : ImageList) (s : Shelf) (m : Maps) → IsInOrder s m → AreClean s (picture images) → KeepsOrderFor images s m s m
for_refl images s m order clean = record {
  order = order;
  guards = λ was. was;
  clean = clean;
  pictures = λ list was. was;
  map = refl;
}

pub for_order : (images : ImageList) (s t : Shelf) (m n : Maps) → KeepsOrder s m t n → AreClean s (picture images) → KeepsOrderFor images s m t n
for_order images s t m n k clean = record {
  order = k.order;
  guards = k.guards;
  clean = k.clean (picture images) clean;
  pictures = k.pictures;
  map = k.map;
}

pub for_trans : (images : ImageList) (s t u : Shelf) (l m n : Maps) → KeepsOrderFor images s l t m → KeepsOrderFor images t m u n → KeepsOrderFor images s l u n
for_trans images s t u l m n a b = record {
  order = b.order;
  guards = λ was. b.guards (a.guards was);
  clean = b.clean;
  pictures = λ list was. b.pictures list (a.pictures list was);
  map = b.map ∙ a.map;
}

-- behind a change that asks for images, one that asks for none; and the other way round
pub for_then : (images : ImageList) (s t u : Shelf) (l m n : Maps) → KeepsOrderFor images s l t m → KeepsOrder t m u n → KeepsOrderFor images s l u n
for_then images s t u l m n a b = for_trans images s t u l m n a (for_order images t u m n b a.clean)

pub then_for : (images : ImageList) (s t u : Shelf) (l m n : Maps) → KeepsOrder s l t m → AreClean s (picture images) → KeepsOrderFor images t m u n → KeepsOrderFor images s l u n
then_for images s t u l m n a clean b = for_trans images s t u l m n (for_order images s t l m a clean) b

-- what is asked of the device holds behind a change that keeps the map of blocks
pub backed_then : (s t : Shelf) (m n : Maps) (images : ImageList) (blocks : ℕ) → KeepsOrder s m t n → IsBacked s images blocks → IsBacked t images blocks
backed_then s t m n images blocks k b = record {
  clean = k.clean (picture images) b.clean;
  device = (let same = k.map in let fits = b.device in omega (arith, same, fits));
}
