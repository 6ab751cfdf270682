-- One name more, and one hold more, of a store with the maps of processes.
use Rattle.std.proofs.Common.{◌≡◌, ◌≢◌, ℕ, ◌+◌, ◌<◌, ◌++◌, ◌&&◌, true, false, List, [], ◌∷◌, length, Option, Some, if◌then◌else◌, nat_lt, ap, sym, ◌∙◌, refl, subst, length-append, get_or}
use Rattle.std.specs.Prelude.{slice_get, not}
use Rattle.std.proofs.lemmas.Option.{slice_get-get_or}
use Rattle.o2_desc.specs.Bits.{is_kind}
use Rattle.o2_isa.specs.View.{is_code, is_writable}
use Rattle.o2_entries.specs.declared.Attr.{Attr}
use Rattle.o2_entries.specs.declared.Entry.{Entry}
use Rattle.o2_image.specs.ImageList.{ImageList, HasImage}
use Rattle.o2_place.specs.declared.seg_id.SegId.{SegId}
use Rattle.o2_regions.specs.Maps.{Maps}
use Rattle.o2_store.specs.Pictures.{HasPicture}
use Rattle.o2_swapmap.specs.Piles.{all_of}
use Rattle.o2_store.specs.Shelf.{Shelf, Adds, Pictures, byte_at, entry}
use Rattle.o2_world.specs.World.{Segment}
use Rattle.o2_world.specs.Opening.{held_by_load}
use Rattle.o2_load.specs.declared.starting_memory.Grip.{Grip}
use Rattle.o2_load.specs.Memory.{KeepsHolds, MakesName, OthersStay}
use Rattle.o2_load.specs.Holds.{HoldsAt, new_segment}
use Rattle.o2_opening.specs.declared.stored.Stored.{Stored}
use Rattle.o2_opening.specs.Loads.{Loads}
use Rattle.o2_stands.specs.Parts.{held_in}
use Rattle.o2_opening.specs.Starting.{AreStored, AreMapped, IsNamedAs, IsStarting, key_in, may_hold, stored_names, stored_seen}
use Rattle.o2_opening.proofs.Stores.{mapped_stored, named_before, named_new, one_left, same_most, stored_more}
use Rattle.o2_opening.proofs.Holding.{holds_at, mapped_held, others_hold, takes_on}

-- an image of the run is one that the store may fill from
pub picture_there : (images : ImageList) (m n : ℕ) → HasImage images m n → HasPicture images m n
unfolding HasPicture
picture_there images m n has = has

-- whatever becomes of the store's segments, what processes hold stays
pub holds_stay : (v w : Stored) → length w.store.entries ≡ length v.store.entries → w.store.places.size ≡ v.store.places.size → all_of w.store.swap ≡ all_of v.store.swap → w.regions ≡ v.regions
    → KeepsHolds (stored_seen v) (stored_seen w)
holds_stay v w most size blocks regions = record {
  held = λ q i. ap (λ (m : Maps). held_in m q i) regions;
  setting = record {
    most = most;
    takes = λ pid i. ap (λ (m : Maps). may_hold m pid i) regions;
    fixed = ap (λ (n : ℕ). n ∷ all_of w.store.swap ∷ w.regions.processes ∷ []) size
        ∙ ap (λ (n : ℕ). v.store.places.size ∷ n ∷ w.regions.processes ∷ []) blocks
        ∙ ap (λ (m : Maps). v.store.places.size ∷ all_of v.store.swap ∷ m.processes ∷ []) regions;
  };
}

pub holds_added : (v w : Stored) (id : SegId) (e : Entry) → Adds v.store w.store id e → w.regions ≡ v.regions → KeepsHolds (stored_seen v) (stored_seen w)
holds_added v w id e adds regions =
    holds_stay v w (same_most v.store w.store id e adds) (ap (λ (s : Shelf). s.places.size) adds.shelf) (ap (λ (s : Shelf). all_of s.swap) adds.shelf) regions

pub holds_same : (v w : Stored) → w.store ≡ v.store → w.regions ≡ v.regions → KeepsHolds (stored_seen v) (stored_seen w)
holds_same v w store regions =
    holds_stay v w (ap (λ (s : Shelf). length s.entries) store) (ap (λ (s : Shelf). s.places.size) store) (ap (λ (s : Shelf). all_of s.swap) store) regions

module _ (v w : Stored) (images : ImageList) (g : Grip) (size room age : ℕ) (attr : Attr) (id : SegId) (is : IsStarting v)
    (adds : Adds v.store w.store id (record { age = age; size = size + room; kept = size; image = Some (g.place, g.number); attr = attr })) (young : age ≡ v.store.made)
    (regions : w.regions ≡ v.regions) (ids : w.ids.items ≡ v.ids.items ++ id ∷ []) where
  pub add_whole : IsStarting w
  add_whole = record {
    stored = subst (λ (xs : List SegId). AreStored w.store xs) (sym ids) (stored_more v.store w.store v.ids.items id _ is.stored adds young);
    mapped =
        subst (λ (m : Maps). AreMapped w.store m w.ids.items) (sym regions)
        (subst (λ (xs : List SegId). AreMapped w.store v.regions xs) (sym ids) (mapped_stored v.store w.store v.ids.items id _ is.stored adds young v.regions is.mapped));
  }

  pub add_made : (name : ℕ) → name ≡ id.age → MakesName (stored_seen v) (stored_seen w) name
  add_made name same = record {
    name = same ∙ adds.age ∙ is.stored.made;
    fits = one_left v.store w.store v.ids.items id _ is.stored adds;
    count = let a = ap (λ (xs : List SegId). length xs) ids in a ∙ length-append v.ids.items (id ∷ []);
  }

  pub add_others : ((pic : Pictures) (block : ℕ → List ℕ) (k j : ℕ) → k ≢ id.key → byte_at w.store pic block k j ≡ byte_at v.store pic block k j)
      → (n : ℕ) (o : Option Segment) → n ≢ length v.ids.items → stored_names v images n o → stored_names w images n o
  add_others bytes n o other named =
      subst (λ (xs : List SegId). IsNamedAs w.store images (key_in xs n) o) (sym ids) (named_before v.store w.store v.ids.items id _ is.stored adds young images bytes n o other named)

  pub add_segment : HasPicture images g.place g.number
      → ((pic : Pictures) (block : ℕ → List ℕ) (j : ℕ) → byte_at w.store pic block id.key j ≡ (if nat_lt j size then pic g.place g.number j else 0))
      → attr.clean ≡ not (is_writable g.rights) → attr.shared ≡ (g.common && not (is_code g.rights)) → attr.flags ≡ 0 → attr.lock ≡ 0 → attr.gone ≡ false
      → (name : ℕ) → name ≡ id.age → stored_names w images name (Some (new_segment images g size room))
  add_segment has bytes clean shared flags lock gone name same =
      subst (λ (xs : List SegId). IsNamedAs w.store images (key_in xs name) (Some (new_segment images g size room))) (sym ids)
      (named_new v.store w.store v.ids.items id _ is.stored adds young images (new_segment images g size room) g.place g.number room refl refl has bytes refl (sym clean) (sym flags) (sym lock) (sym shared) (sym gone) name
      (same ∙ adds.age ∙ is.stored.made))

-- A hold.

pub id_known : (ids : List SegId) (n : ℕ) (id : SegId) → n < length ids → id ≡ get_or ids n id → slice_get ids n ≡ Some id
id_known ids n id less is = slice_get-get_or ids n id less ∙ ap Some (sym is)

module _ (v w : Stored) (pid index rights limit name : ℕ) (id : SegId) (is : IsStarting v) (store : w.store ≡ v.store) (ids : w.ids ≡ v.ids) (loads : Loads v.regions w.regions pid index id rights limit)
    (may : (stored_seen v).takes pid index ≡ true) (at : slice_get v.ids.items name ≡ Some id) (size : limit + 1 ≡ (entry v.store id.key).size) where
  age : id.age ≡ name
  age = is.stored.aged name id at

  known : slice_get v.ids.items id.age ≡ Some id
  known = ap (slice_get v.ids.items) age ∙ at

  pub hold_whole : IsStarting w
  hold_whole =
      let mapped = mapped_held v.store v.regions w.regions v.ids.items pid index rights limit id is.mapped loads may known is.stored.out size in
      record {
        stored = subst (λ (s : Shelf). AreStored s w.ids.items) (sym store) (subst (λ xs. AreStored v.store xs) (sym (ap (λ x. x.items) ids)) is.stored);
        mapped = subst (λ (s : Shelf). AreMapped s w.regions w.ids.items) (sym store) (subst (λ xs. AreMapped v.store w.regions xs) (sym (ap (λ x. x.items) ids)) mapped);
      }

  pub hold_here : is_kind rights ≡ true → HoldsAt (stored_seen v) (stored_seen w) pid index (held_by_load name rights)
  hold_here kind j = holds_at v.store v.regions w.regions v.ids.items pid index rights limit id is.mapped loads may known is.stored.out size kind name age j

  pub hold_others : is_kind rights ≡ true → OthersStay (stored_seen v) (stored_seen w) pid
  hold_others kind = record {
    others = λ q j other. others_hold v.store v.regions w.regions v.ids.items pid index rights limit id is.mapped loads may known is.stored.out size kind q j other;
    setting = record {
      most = ap (λ (s : Shelf). length s.entries) store;
      takes = λ q j. takes_on v.store v.regions w.regions v.ids.items pid index rights limit id is.mapped loads may known is.stored.out size q j;
      fixed = ap (λ (s : Shelf). s.places.size ∷ all_of s.swap ∷ w.regions.processes ∷ []) store ∙ ap (λ (n : ℕ). v.store.places.size ∷ all_of v.store.swap ∷ n ∷ []) loads.processes;
    };
  }
