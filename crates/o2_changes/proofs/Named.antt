-- A name's segment in two stores.
use Rattle.std.proofs.Common.{◌≡◌, ℕ, ◌<◌, Option, Some, None, refl, sym, ap, ◌∙◌, subst}
use Rattle.o2_entries.specs.declared.Entry.{Entry}
use Rattle.o2_regions.specs.Maps.{Maps}
use Rattle.o2_store.specs.Pictures.{picture}
use Rattle.o2_store.specs.Shelf.{Shelf, byte_at, entry}
use Rattle.o2_world.specs.World.{Segment}
use Rattle.o2_stands.specs.Parts.{Parts}
use Rattle.o2_stands.specs.Stands.{IsNamed, IsSegment}

-- the segment of another name, where it is removed or not
pub named_same : (p : Parts) (t : Shelf) (n : Maps) (k : ℕ) (g : Segment) → entry t k ≡ entry p.shelf k → ((j : ℕ) → byte_at t (picture p.images) p.block k j ≡ byte_at p.shelf (picture p.images) p.block k j)
    → IsSegment p k g → IsSegment (record p { shelf = t; maps = n }) k g
named_same p t n k g e b is = record {
  size = is.size ∙ ap (λ (x : Entry). x.size) (sym e);
  bytes = λ j l. is.bytes j (subst (λ (x : Entry). j < x.size) e l) ∙ sym (b j);
  clean = is.clean ∙ ap (λ (x : Entry). x.attr.clean) (sym e);
  flags = is.flags ∙ ap (λ (x : Entry). x.attr.flags) (sym e);
  lock = is.lock ∙ ap (λ (x : Entry). x.attr.lock) (sym e);
  shared = is.shared ∙ ap (λ (x : Entry). x.attr.shared) (sym e);
  discarded = is.discarded ∙ ap (λ (x : Entry). x.attr.gone) (sym e);
}

-- what is known of a name, where both sides say the same of its number
pub named_by : (p : Parts) (t : Shelf) (n : Maps) (o u : Option ℕ) (g : Option Segment) → u ≡ o → ((k : ℕ) → o ≡ Some k → entry t k ≡ entry p.shelf k)
    → ((k : ℕ) → o ≡ Some k → (j : ℕ) → byte_at t (picture p.images) p.block k j ≡ byte_at p.shelf (picture p.images) p.block k j)
    → IsNamed p o g → IsNamed (record p { shelf = t; maps = n }) u g
named_by p t n o u g e same bytes is = subst (λ (v : Option ℕ). IsNamed (record p { shelf = t; maps = n }) v g) (sym e) (go o g same bytes is)
  where
    go : (o : Option ℕ) (g : Option Segment) → ((k : ℕ) → o ≡ Some k → entry t k ≡ entry p.shelf k)
        → ((k : ℕ) → o ≡ Some k → (j : ℕ) → byte_at t (picture p.images) p.block k j ≡ byte_at p.shelf (picture p.images) p.block k j)
        → IsNamed p o g → IsNamed (record p { shelf = t; maps = n }) o g
    go None None same bytes is = is
    go (Some k) None same bytes is = absurd is
    go None (Some s) same bytes is = absurd is
    go (Some k) (Some s) same bytes is = named_same p t n k s (same k refl) (bytes k refl) is

-- maps don't matter
pub named_maps : (p : Parts) (n : Maps) (o : Option ℕ) (g : Option Segment) → IsNamed p o g → IsNamed (record p { maps = n }) o g
named_maps p n o g is = named_by p p.shelf n o o g refl (λ k e. refl) (λ k e j. refl) is
