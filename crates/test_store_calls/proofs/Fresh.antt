-- A store without segments, and what isn't discarded of a list.
use Rattle.std.proofs.Common.{◌≡◌, ◌<◌, ℕ, List, Option, None, Some, false, ap}
use Rattle.std.specs.Prelude.{slice_get}
use Rattle.o2_place.specs.declared.seg_id.SegId.{SegId}
use Rattle.o2_entries.specs.declared.Entry.{Entry}
use Rattle.o2_entries.specs.Tables.{slot_at}
use Rattle.o2_image.specs.ImageList.{ImageList}
use Rattle.o2_store.specs.Pictures.{picture, HasPicture}
use Rattle.o2_store.specs.Shelf.{Shelf, AreClean, HasAll, entry, entry_or, place_of}
use Rattle.o2_store.proofs.Tables.{none_is_none}

pub pictured_fresh : (s : Shelf) (im : ImageList) → ((k : ℕ) → slot_at s.entries k ≡ None) → HasAll (HasPicture im) s
pictured_fresh s im empty k x y e = absurd (none_is_none e (ap (λ (o : Option Entry). (entry_or o).image) (empty k)))

pub clean_fresh : (s : Shelf) (im : ImageList) → ((k : ℕ) → place_of s k ≡ None) → AreClean s (picture im)
clean_fresh s im out = record {
  bytes = λ k at len j clean place l block. absurd (none_is_none place (out k));
}

-- the first n aren't discarded
pub record WholeTo (s : Shelf) (need : List (SegId × ℕ)) (n : ℕ) : Type 0 where
  pub each : (i : ℕ) (p : SegId × ℕ) → i < n → slice_get need i ≡ Some p → (entry s p.0.key).attr.gone ≡ false
