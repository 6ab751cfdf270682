-- What a store shows as an image is one of those that its segments have.
use Rattle.std.proofs.Common.{◌≡◌, ◌==◌, ℕ, Bool, true, false, cond, Option, Some, None, option_map, ap, ◌∙◌, refl}
use Rattle.o2_entries.specs.declared.Entry.{Entry}
use Rattle.o2_entries.specs.Tables.{slot_at}
use Rattle.o2_image.specs.ImageList.{ImageList, HasImage}
use Rattle.o2_place.specs.declared.seg_id.SegId.{SegId}
use Rattle.o2_store.specs.Pictures.{HasPicture}
use Rattle.o2_store.specs.Shelf.{HasAll, Shelf, aged, entry_of, entry_or, place_of, shown_at, shown_out}
use Rattle.o2_store.specs.declared.brought.Place.{Place}
use Rattle.o2_store.specs.declared.brought.Place.TheVariants as shown

some_is : (x y : Place) → ◌≡◌ {A = Option Place} (Some x) (Some y) → x ≡ y
some_is x y e = cc

module _ (m n : ℕ) where
  out_image : (o : Option (ℕ × ℕ)) (kept : ℕ) → shown_out o kept ≡ shown.Image m n → o ≡ Some (m, n)
  out_image (Some p) kept e = let first : p.0 ≡ m = cc in let second : p.1 ≡ n = cc in ap (λ (x : ℕ). Some (x, p.1)) first ∙ ap (λ (y : ℕ). Some (m, y)) second
  out_image None kept e = go (kept == 0) e
    where
      go : (b : Bool) → cond b shown.Zeros shown.Blocks ≡ shown.Image m n → ◌≡◌ {A = Option (ℕ × ℕ)} None (Some (m, n))
      go true e = absurd (cc)
      go false e = absurd (cc)

  image_of : (p : Option (ℕ × ℕ)) (x : Entry) → shown_at p x ≡ shown.Image m n → x.image ≡ Some (m, n)
  image_of (Some r) x e = absurd (cc)
  image_of None x e = out_image x.image x.kept e

  pub pictured : (s : Shelf) (images : ImageList) (id : SegId) → HasAll (HasPicture images) s → option_map (shown_at (place_of s id.key)) (entry_of s id) ≡ Some (shown.Image m n) → HasImage images m n
  unfolding HasPicture
  pictured s images id all e = go (slot_at s.entries id.key) refl e
    where
      here : (o : Option Entry) (x : Entry) (b : Bool) → o ≡ Some x → slot_at s.entries id.key ≡ o → option_map (shown_at (place_of s id.key)) (cond b (Some x) None) ≡ Some (shown.Image m n) → HasImage images m n
      here o x true is at e = all id.key m n (ap (λ (y : Option Entry). (entry_or y).image) (at ∙ is) ∙ image_of (place_of s id.key) x (some_is (shown_at (place_of s id.key) x) (shown.Image m n) e))
      here o x false is at e = absurd (cc)

      go : (o : Option Entry) → slot_at s.entries id.key ≡ o → option_map (shown_at (place_of s id.key)) (aged id.age o) ≡ Some (shown.Image m n) → HasImage images m n
      go None at e = absurd (cc)
      go (Some x) at e = here (Some x) x (x.age == id.age) refl at e
