-- A name whose segment is gone goes: nothing else is found than before.
use Rattle.std.proofs.Common.{◌≡◌, ℕ, ◌+◌, ◌&&◌, ◌⊎◌, inl, inr, Bool, true, false, cond, List, [], ◌∷◌, Option, Some, None, is_some, length, ext_get_or, set, refl, sym, ap, ◌∙◌}
use Rattle.std.proofs.Math.ListN.{get_or-map}
use Rattle.std.proofs.lemmas.Bool.{cases_eq, cond-true}
use Rattle.std.proofs.lemmas.List.{get_or-set_other, get_or-set_same, length-map, length-set}
use Rattle.o2_place.specs.declared.seg_id.SegId.{SegId}
use Rattle.o2_regions.specs.Maps.{Maps}
use Rattle.o2_store.specs.Shelf.{Shelf, entry_of}
use Rattle.o2_world.specs.Known.{same_text}
use Rattle.o2_shared.specs.declared.names.Name.{Name}
use Rattle.o2_shared.specs.NameOrder.{HasText, LacksText, name_at}
use Rattle.o2_shared.specs.Texts.{AreDistinct, AreInPlace, AreTexts, IsNamed, age_of, found_from, found_or, live_in, other_than, without}
use Rattle.o2_shared.proofs.Finding.{dead_none, same_is, same_refl}
use Rattle.o2_shared.proofs.Ordered.{still_there, within_names}

-- The names but that of a text.

pub length-without : (t : List ℕ) (names : List (Option Name)) → length (without t names) ≡ length names
length-without t names = length-map names (other_than t)

without_at : (t : List ℕ) (names : List (Option Name)) (place : ℕ) → name_at (without t names) place ≡ other_than t (name_at names place)
without_at t names place = get_or-map (other_than t) names place None

other_kept : (t : List ℕ) (o : Option Name) (k : Name) → other_than t o ≡ Some k → o ≡ Some k
other_kept t None k e = e
other_kept t (Some l) k e = go (same_text l.text t) e
  where
    go : (b : Bool) → cond b None (Some l) ≡ Some k → Some l ≡ Some k
    go true e = absurd (cc)
    go false e = e

pub kept : (t : List ℕ) (names : List (Option Name)) (place : ℕ) (k : Name) → name_at (without t names) place ≡ Some k → name_at names place ≡ Some k
kept t names place k e = other_kept t (name_at names place) k (sym (without_at t names place) ∙ e)

-- that of a text is one
other_same : (t : List ℕ) (o : Option Name) → ((k : Name) → o ≡ Some k → k.text ≡ t → ⊥) → other_than t o ≡ o
other_same t None nobody = refl
other_same t (Some k) nobody = go (same_text k.text t) refl
  where
    go : (b : Bool) → same_text k.text t ≡ b → cond b None (Some k) ≡ Some k
    go true e = absurd (nobody k refl (same_is k.text t e))
    go false e = refl

other_none : (t : List ℕ) (k : Name) → k.text ≡ t → other_than t (Some k) ≡ None
other_none t k e = cond-true (same_text k.text t) None (Some k) (ap (λ (u : List ℕ). same_text u t) e ∙ same_refl t)

pub without_nobody : (t : List ℕ) (names : List (Option Name)) → LacksText names t → without t names ≡ names
without_nobody t names nobody = ext_get_or None (without t names) names (length-without t names) (λ i l. without_at t names i ∙ other_same t (name_at names i) (nobody.other i))

pub without_one : (t : List ℕ) (names : List (Option Name)) (place : ℕ) → AreDistinct names → HasText names t place → set names place None ≡ without t names
without_one t names place distinct has = ext_get_or None (set names place None) (without t names) (length-set names place None ∙ sym (length-without t names)) (λ i l. at i (cases_eq i place))
  where
    at : (i : ℕ) → (i ≡ place) ⊎ (i ≡ place → ⊥) → name_at (set names place None) i ≡ name_at (without t names) i
    at i (inl is) =
        ap (name_at (set names place None)) is ∙ get_or-set_same names place None None (within_names names place has.name has.there)
        ∙ sym (without_at t names i ∙ ap (λ (j : ℕ). other_than t (name_at names j)) is ∙ ap (other_than t) has.there ∙ other_none t has.name has.same)
    at i (inr isnt) =
        get_or-set_other names place i None None isnt
        ∙ sym (without_at t names i ∙ other_same t (name_at names i) (λ l e same. isnt (distinct.once i place l has.name e has.there (same ∙ sym has.same))))

other_text : (t : List ℕ) (o : Option Name) (k : Name) → other_than t o ≡ Some k → k.text ≡ t → ⊥
other_text t None k e text = let z : ◌≡◌ {A = Option Name} None (Some k) = e in cc
other_text t (Some l) k e text = go (same_text l.text t) refl e
  where
    go : (b : Bool) → same_text l.text t ≡ b → cond b None (Some l) ≡ Some k → ⊥
    go true is f = cc
    go false is f =
        let same : l ≡ k = cc in
        let z : false ≡ true = sym is ∙ ap (λ (x : Name). same_text x.text t) same ∙ ap (λ (u : List ℕ). same_text u t) text ∙ same_refl t in
        cc

-- none that is left has the text, also where one more goes
pub lacks_without : (t : List ℕ) (names : List (Option Name)) (place : ℕ) → LacksText (set (without t names) place None) t
lacks_without t names place = record { other = λ i k e same. other_text t (name_at names i) k (sym (without_at t names i) ∙ (still_there (without t names) place i k e).1) same }

-- Where the text isn't found.

pub found_without : (s : Shelf) (t u : List ℕ) (names : List (Option Name)) (index : ℕ) → found_from s t names index ≡ None → found_from s u (without t names) index ≡ found_from s u names index
found_without s t u [] index e = refl
found_without s t u (o ∷ os) index e = first (live_in s t o) refl e (found_without s t u os (index + 1))
  where
    gone : (k : Name) (b : Bool) → same_text k.text t ≡ b → live_in s t (Some k) ≡ None → live_in s u (cond b None (Some k)) ≡ live_in s u (Some k)
    gone k false is none = refl
    gone k true is none = sym (dead_none s u (Some k) (λ l same. dead l same (is_some (entry_of s l.id)) refl))
      where
        dead : (l : Name) → Some k ≡ Some l → (b : Bool) → is_some (entry_of s l.id) ≡ b → b ≡ false
        dead l same false f = refl
        dead l same true f =
            let name : l ≡ k = cc in
            let lives : is_some (entry_of s k.id) ≡ true = ap (λ (x : Name). is_some (entry_of s x.id)) (sym name) ∙ f in
            let z : ◌≡◌ {A = Option SegId} (Some k.id) None = sym (ap (λ (b : Bool). cond (b && is_some (entry_of s k.id)) (Some k.id) None) is ∙ ap (λ (b : Bool). cond b (Some k.id) None) lives) ∙ none in
            absurd (cc)

    this : (x : Option Name) → live_in s t x ≡ None → live_in s u (other_than t x) ≡ live_in s u x
    this None none = refl
    this (Some k) none = gone k (same_text k.text t) refl none

    first : (x : Option SegId) → live_in s t o ≡ x → found_or index x (found_from s t os (index + 1)) ≡ None → (found_from s t os (index + 1) ≡ None → found_from s u (without t os) (index + 1) ≡ found_from s u os (index + 1))
        → found_from s u (without t (o ∷ os)) index ≡ found_from s u (o ∷ os) index
    first (Some id) is f rest = absurd (cc)
    first None is f rest = ap (λ (x : Option SegId). found_or index x (found_from s u (without t os) (index + 1))) (this o is) ∙ ap (found_or index (live_in s u o)) (rest f)

pub texts_without : (s : Shelf) (t : List ℕ) (names : List (Option Name)) (look : List ℕ → Option ℕ) → found_from s t names 4096 ≡ None → AreTexts s names look → AreTexts s (without t names) look
texts_without s t names look none was = record { each = λ u. was.each u ∙ sym (ap age_of (found_without s t u names 4096 none)) }

pub none_without : (s : Shelf) (t : List ℕ) (names : List (Option Name)) → found_from s t names 4096 ≡ None → found_from s t (without t names) 4096 ≡ None
none_without s t names none = found_without s t t names 4096 none ∙ none

pub places_without : (s : Shelf) (m : Maps) (t : List ℕ) (names : List (Option Name)) → AreInPlace s m names → AreInPlace s m (without t names)
places_without s m t names places = record {
  held = λ place k named. places.held place k (before place k named);
  once = λ place other k l a b text. places.once place other k l (before place k a) (before other l b) text;
  older = λ place k there. places.older place k (kept t names place k there);
}
  where
    before : (place : ℕ) (k : Name) → IsNamed s (without t names) place k → IsNamed s names place k
    before place k named = record { there = kept t names place k named.there; lives = named.lives }
