-- A store and maps in which all processes have started are those of the names and processes that the starts build.
use Rattle.std.proofs.Common.{◌≡◌, ℕ, suc, ◌+◌, ◌==◌, Bool, true, false, cond, List, [], ◌∷◌, Option, Some, None, IsSome, ap, sym, ◌∙◌, refl, arith, subst}
use Rattle.std.specs.Prelude.{slice_get, option_map, is_some}
use Rattle.std.proofs.lemmas.Bool.{eqb-true}
use Rattle.std.proofs.lemmas.Option.{none-some, same_Some}
use Rattle.o2_entries.specs.declared.Entry.{Entry}
use Rattle.o2_entries.specs.Tables.{slot_at}
use Rattle.o2_image.specs.ImageList.{ImageList}
use Rattle.o2_place.specs.declared.seg_id.SegId.{SegId}
use Rattle.o2_regions.specs.Kept.{AreKept}
use Rattle.o2_regions.specs.Maps.{Maps}
use Rattle.o2_regions.proofs.Reserves.{holder_in}
use Rattle.o2_service.specs.Told.{IsHeldWell}
use Rattle.o2_store.specs.Needs.{has_age}
use Rattle.o2_store.specs.Pictures.{HasPicture}
use Rattle.o2_store.specs.Shelf.{Shelf, HasAll, aged, entry, entry_or}
use Rattle.o2_segbus.specs.Guards.{AreAged, AreLive}
use Rattle.o2_segbus.specs.Seen.{AreNamed, key_of, number_from}
use Rattle.o2_segbus.proofs.Ages.{aged_key, named_by_age}
use Rattle.o2_world.specs.Map.{Map, get}
use Rattle.o2_world.specs.World.{Segment}
use Rattle.o2_opening.specs.Starting.{AreStored, AreMapped, IsNamedAs, key_in}

some_entry : (o : Option Entry) (age : ℕ) → IsSome (aged age o) → (e : Entry) × ((o ≡ Some e) × (e.age ≡ age))
some_entry None age h = absurd (cc)
some_entry (Some e) age h = go (e.age == age) refl h
  where
    go : (t : Bool) → (e.age == age) ≡ t → is_some (cond t (Some e) None) ≡ true → (f : Entry) × ((Some e ≡ Some f) × (f.age ≡ age))
    go true q z = (e, (refl, eqb-true e.age age q))
    go false q z = absurd (cc)

-- a number that is found has the age
abbrev FoundAt : ℕ → List (Option Entry) → ℕ → ℕ → Type 0
FoundAt age es b k = (j : ℕ) × ((k ≡ b + j) × (has_age (slot_at es j) age ≡ true))

found_next : (age : ℕ) (o : Option Entry) (es : List (Option Entry)) (b k : ℕ) → (number_from age es (b + 1) ≡ Some k → FoundAt age es (b + 1) k)
    → (t : Bool) → has_age o age ≡ t → cond t (Some b) (number_from age es (b + 1)) ≡ Some k → FoundAt age (o ∷ es) b k
found_next age o es b k rest true h e = let same : b ≡ k = cc in (0, (omega (arith, same), h))
found_next age o es b k rest false h e =
    let there = rest e in
    let n = there.1.0 in
    (suc there.0, (omega (arith, n), there.1.1))

found_age : (age : ℕ) (es : List (Option Entry)) (b k : ℕ) → number_from age es b ≡ Some k → FoundAt age es b k
found_age age [] b k e = absurd (cc)
found_age age (o ∷ es) b k e = found_next age o es b k (λ f. found_age age es (b + 1) k f) (has_age o age) refl e

age_of : (o : Option Entry) (age : ℕ) → has_age o age ≡ true → (e : Entry) × ((o ≡ Some e) × (e.age ≡ age))
age_of None age h = absurd (cc)
age_of (Some e) age h = (e, (refl, eqb-true e.age age h))

module _ (s : Shelf) (ids : List SegId) (is : AreStored s ids) where
  -- no two live segments have one age
  pub ages_apart : AreAged s
  ages_apart j k live other same = go (slot_at s.entries j) refl live (slot_at s.entries k) refl other same
    where
      key_of_id : (x y : SegId) → Some x ≡ Some y → x.key ≡ y.key
      key_of_id x y e = ap (λ (z : SegId). z.key) (same_Some x y e)

      go : (o : Option Entry) → slot_at s.entries j ≡ o → IsSome o → (p : Option Entry) → slot_at s.entries k ≡ p → IsSome p → (entry_or (slot_at s.entries j)).age ≡ (entry_or (slot_at s.entries k)).age → j ≡ k
      go None e h p f i same = absurd (cc)
      go (Some x) e h None f i same = absurd (cc)
      go (Some x) e h (Some y) f i same =
          let a = is.back j x e in
          let b = is.back k y f in
          let ages : x.age ≡ y.age = sym (ap (λ (o : Option Entry). (entry_or o).age) e) ∙ same ∙ ap (λ (o : Option Entry). (entry_or o).age) f in
          let pair = sym a ∙ ap (slice_get ids) ages ∙ b in
          key_of_id _ _ pair

  -- a name's segment is found by its age
  pub key_is : (n : ℕ) → key_of s n ≡ key_in ids n
  unfolding key_of
  key_is n = go (slice_get ids n) refl
    where
      there : (id : SegId) → slice_get ids n ≡ Some id → key_of s n ≡ Some id.key
      there id e =
          let x = some_entry (slot_at s.entries id.key) id.age (is.there n id e) in
          let live : IsSome (slot_at s.entries id.key) = ap is_some x.1.0 in
          let age : (entry s id.key).age ≡ n = ap (λ (o : Option Entry). (entry_or o).age) x.1.0 ∙ x.1.1 ∙ is.aged n id e in
          subst (λ (a : ℕ). key_of s a ≡ Some id.key) age (aged_key s id.key ages_apart live)

      nowhere : slice_get ids n ≡ None → (o : Option ℕ) → number_from n s.entries 0 ≡ o → o ≡ None
      nowhere e None f = refl
      nowhere e (Some k) f =
          let at = found_age n s.entries 0 k f in
          let x = age_of (slot_at s.entries at.0) n at.1.1 in
          let id = is.back at.0 x.0 x.1.0 in
          let none = sym e ∙ ap (slice_get ids) (sym x.1.1) ∙ id in
          absurd (none-some _ none)

      go : (o : Option SegId) → slice_get ids n ≡ o → number_from n s.entries 0 ≡ option_map (λ (id : SegId). id.key) (slice_get ids n)
      go (Some id) e = there id e ∙ ap (option_map (λ (x : SegId). x.key)) (sym e)
      go None e = nowhere e (number_from n s.entries 0) refl ∙ ap (option_map (λ (x : SegId). x.key)) (sym e)

  -- each image is one of the run
  pub pictures_are : (images : ImageList) (names : Map Segment) → ((n : ℕ) → IsNamedAs s images (key_in ids n) (get names n)) → HasAll (HasPicture images) s
  pictures_are images names named k m seg at = go (slot_at s.entries k) refl
    where
      go : (o : Option Entry) → slot_at s.entries k ≡ o → HasPicture images m seg
      go None e = absurd (none-some (m, seg) (sym (ap (λ (o : Option Entry). (entry_or o).image) e) ∙ at))
      go (Some x) e = (named x.age).picture k m seg (ap (option_map (λ (z : SegId). z.key)) (is.back k x e)) at

module _ (s : Shelf) (m : Maps) (ids : List SegId) (is : AreStored s ids) (mapped : AreMapped s m ids) (kept : AreKept m) where
  pub live_holds : AreLive s m
  live_holds pid i h at = is.there h.id.age h.id (mapped.held pid i h at).id

  pub names_held : AreNamed s m
  names_held = named_by_age s m (ages_apart s ids is) live_holds

  pub held_well : IsHeldWell s m
  held_well = record {
    live = live_holds;
    inside = λ pid i h at. (let there = holder_in m pid i h kept at in let long = mapped.tables pid there.0 in omega (arith, long, there.1));
  }
