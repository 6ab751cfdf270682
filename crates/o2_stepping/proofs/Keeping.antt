-- What is kept by bringing segments in and by a try of a step.
use Rattle.std.proofs.Common.{◌≡◌, ℕ, true, List, Option, ap, sym, ◌∙◌, refl, subst, arith}
use Rattle.o2_desc.specs.Bits.{is_writable, rights_of, unmarked}
use Rattle.o2_entries.specs.declared.Attr.{Attr}
use Rattle.o2_image.specs.ImageList.{ImageList}
use Rattle.o2_regions.specs.declared.held.Held.{Held}
use Rattle.o2_regions.specs.Maps.{Maps, held_at}
use Rattle.o2_store.specs.Pictures.{picture, HasPicture}
use Rattle.o2_store.specs.Shelf.{Shelf, SameTables, AreClean, HasAll}
use Rattle.o2_store.proofs.Keeping.{same_tables, tables_trans}
use Rattle.o2_swapmap.specs.Piles.{all_of}
use Rattle.o2_segbus.specs.Frames.{KeepsMaps, KeepsStore}
use Rattle.o2_segbus.specs.Guards.{AreGuarded}
use Rattle.o2_segbus.specs.Settled.{IsSettled, descriptor_at}
use Rattle.o2_segbus.proofs.Ages.{ages_stay, names_stay}
use Rattle.o2_service.specs.Told.{IsHeldWell, OnlyTables}
use Rattle.o2_service.proofs.Among.{live_same}
use Rattle.o2_stands.specs.Stands.{IsReady}
use Rattle.o2_stepping.specs.Shapes.{SameHolds, SameShape}
use Rattle.o2_stepping.specs.Worlds.{parts_of}

-- Maps.

pub only_holds : (m n : Maps) → OnlyTables m n → SameHolds m n
only_holds m n o = record {
  processes = ap (λ (x : Maps). x.processes) o.rest;
  held = ap (λ (x : Maps). x.held) o.rest;
  reserved = ap (λ (x : Maps). x.reserved) o.rest;
  lengths = o.lengths;
  rights = o.rights;
}

-- an access byte's rights hang on its bits but the accessed one
same_rights : (a b : ℕ) → unmarked a ≡ unmarked b → rights_of a ≡ rights_of b
same_rights a b e = omega arith

pub marks_hold : (m n : Maps) → KeepsMaps m n → SameHolds m n
marks_hold m n k = record {
  processes = k.processes;
  held = k.held;
  reserved = k.reserved;
  lengths = k.lengths;
  rights = λ pid i. same_rights (descriptor_at n pid i).access (descriptor_at m pid i).access (k.access pid i);
}

pub holds_trans : (l m n : Maps) → SameHolds l m → SameHolds m n → SameHolds l n
holds_trans l m n a b = record {
  processes = b.processes ∙ a.processes;
  held = b.held ∙ a.held;
  reserved = b.reserved ∙ a.reserved;
  lengths = λ pid. b.lengths pid ∙ a.lengths pid;
  rights = λ pid i. b.rights pid i ∙ a.rights pid i;
}

pub holds_refl : (m : Maps) → SameHolds m m
holds_refl m = record { processes = refl; held = refl; reserved = refl; lengths = λ pid. refl; rights = λ pid i. refl }

pub held_stays : (m n : Maps) → SameHolds m n → (pid i : ℕ) → held_at n pid i ≡ held_at m pid i
held_stays m n k pid i = ap (λ (l : List (Option Held)). held_at (record m { held = l }) pid i) k.held

-- Tables of the store.

pub bytes_tables : (s t : Shelf) → KeepsStore s t → SameTables s t
bytes_tables s t k = subst (λ (z : Shelf). SameTables s z) (sym k.store) (record { same = (same_tables s).same; count = refl; made = refl; size = refl })

pub shape_trans : (s t u : Shelf) (l m n : Maps) → SameShape s l t m → SameShape t m u n → SameShape s l u n
shape_trans s t u l m n a b = record {
  tables = tables_trans s t u a.tables b.tables;
  swap = b.swap ∙ a.swap;
  holds = holds_trans l m n a.holds b.holds;
}

pub shape_refl : (s : Shelf) (m : Maps) → SameShape s m s m
shape_refl s m = record { tables = same_tables s; swap = refl; holds = holds_refl m }

pub try_shape : (s t : Shelf) (m n : Maps) → KeepsStore s t → KeepsMaps m n → SameShape s m t n
try_shape s t m n k l = record { tables = bytes_tables s t k; swap = ap (λ (z : Shelf). all_of z.swap) k.store; holds = marks_hold m n l }

-- What the calls ask for.

guards_same : (s t : Shelf) (m n : Maps) → SameTables s t → SameHolds m n → AreGuarded s m → AreGuarded t n
guards_same s t m n w k g pid i h held writable =
    ap (λ (a : Attr). a.clean) (w.same h.id.key).attr
    ∙ g pid i h (sym (held_stays m n k pid i) ∙ held) (subst (λ (r : ℕ). is_writable r ≡ true) (k.rights pid i) writable)

pictures_same : (images : ImageList) (s t : Shelf) → SameTables s t → HasAll (HasPicture images) s → HasAll (HasPicture images) t
pictures_same images s t w h k m seg e = h k m seg ((w.same k).image (m, seg) e)

pub held_well : (s t : Shelf) (m n : Maps) → SameTables s t → SameHolds m n → IsHeldWell s m → IsHeldWell t n
held_well s t m n w k h = record {
  live = λ pid i x e. live_same s t x.id w (h.live pid i x (sym (held_stays m n k pid i) ∙ e));
  inside = λ pid i x e. (let l = k.lengths pid in let y = h.inside pid i x (sym (held_stays m n k pid i) ∙ e) in omega (arith, l, y));
}

pub ready_same : (images : ImageList) (s t : Shelf) (m n : Maps) (device other : ℕ) (before after : ℕ → List ℕ) → IsReady (parts_of s m images device before)
    → SameShape s m t n → other ≡ device → IsSettled t n → AreClean t (picture images) → IsReady (parts_of t n images other after)
ready_same images s t m n device other before after r w same settled clean = record {
  aged = ages_stay s t w.tables r.aged;
  named = names_stay s t m n w.tables w.holds.held r.named;
  held = held_well s t m n w.tables w.holds r.held;
  settled = settled;
  guarded = guards_same s t m n w.tables w.holds r.guarded;
  clean = clean;
  pictures = pictures_same images s t w.tables r.pictures;
  device = (let d = r.device in let e = w.swap in omega (arith, d, e, same));
}
