-- What is found among the names, and what a new name leaves.
use Rattle.std.proofs.Common.{◌≡◌, ℕ, zero, suc, ◌+◌, ◌<◌, ◌==◌, ◌&&◌, Bool, true, false, cond, List, [], ◌∷◌, Option, Some, None, IsSome, is_some, length, get_or, set, refl, sym, ap, ◌∙◌, subst, arith}
use Rattle.std.proofs.lemmas.Bool.{and_parts, cond-false, cond-true, eq-eqb, eqb-true, false_from_ne_true}
use Rattle.o2_place.specs.declared.seg_id.SegId.{SegId}
use Rattle.o2_store.specs.Shelf.{Shelf, entry_of}
use Rattle.o2_world.specs.Known.{same_text}
use Rattle.o2_shared.specs.declared.names.Name.{Name}
use Rattle.o2_shared.specs.NameOrder.{LacksText, name_at}
use Rattle.o2_shared.specs.Texts.{AreDistinct, IsNamed, age_of, found_from, found_or, live_in, live_of}

-- Texts.

pub same_refl : (t : List ℕ) → same_text t t ≡ true
same_refl [] = refl
same_refl (x ∷ xs) = ap (λ (b : Bool). b && same_text xs xs) (eq-eqb x x refl) ∙ same_refl xs

pub same_is : (t u : List ℕ) → same_text t u ≡ true → t ≡ u
same_is [] [] e = refl
same_is [] (y ∷ ys) e = absurd (cc)
same_is (x ∷ xs) [] e = absurd (cc)
same_is (x ∷ xs) (y ∷ ys) e =
    let p = and_parts (x == y) (same_text xs ys) e in
    ap (λ (z : ℕ). z ∷ xs) (eqb-true x y p.0) ∙ ap (λ (zs : List ℕ). y ∷ zs) (same_is xs ys p.1)

-- One name.

-- it has no other text, and lives
pub live_is : (s : Shelf) (t : List ℕ) (k : Name) (id : SegId) → live_in s t (Some k) ≡ Some id → (k.text ≡ t) × IsSome (entry_of s k.id) × (k.id ≡ id)
live_is s t k id e = go (same_text k.text t && is_some (entry_of s k.id)) refl e
  where
    go : (b : Bool) → (same_text k.text t && is_some (entry_of s k.id)) ≡ b → cond b (Some k.id) None ≡ Some id → (k.text ≡ t) × IsSome (entry_of s k.id) × (k.id ≡ id)
    go true f e = let p = and_parts (same_text k.text t) (is_some (entry_of s k.id)) f in (same_is k.text t p.0, p.1, let z : k.id ≡ id = cc in z)
    go false f e = absurd (cc)

pub live_here : (s : Shelf) (k : Name) → IsSome (entry_of s k.id) → live_in s k.text (Some k) ≡ Some k.id
live_here s k lives = cond-true (same_text k.text k.text && is_some (entry_of s k.id)) (Some k.id) None (ap (λ (b : Bool). b && is_some (entry_of s k.id)) (same_refl k.text) ∙ lives)

-- it has no text where it doesn't live
pub dead_none : (s : Shelf) (t : List ℕ) (o : Option Name) → ((k : Name) → o ≡ Some k → is_some (entry_of s k.id) ≡ false) → live_in s t o ≡ None
dead_none s t None dead = refl
dead_none s t (Some k) dead = cond-false (same_text k.text t && is_some (entry_of s k.id)) (Some k.id) None (none (same_text k.text t) (is_some (entry_of s k.id)) (dead k refl))
  where
    none : (a b : Bool) → b ≡ false → (a && b) ≡ false
    none true b e = e
    none false b e = refl

-- over stores in which its segment lives or not alike
pub live_same : (s u : Shelf) (t : List ℕ) (o : Option Name) → ((k : Name) → o ≡ Some k → is_some (entry_of u k.id) ≡ is_some (entry_of s k.id)) → live_in u t o ≡ live_in s t o
live_same s u t None same = refl
live_same s u t (Some k) same = ap (λ (b : Bool). cond (same_text k.text t && b) (Some k.id) None) (same k refl)

-- The names from a place on.

-- what is found is the name of a place
pub record IsFound (s : Shelf) (t : List ℕ) (names : List (Option Name)) (index : ℕ) (f : ℕ × SegId) : Type 0 where
  pub place : ℕ
  pub name : Name
  pub named : IsNamed s names place name
  pub text : name.text ≡ t
  pub index_is : f.0 ≡ index + place
  pub id_is : f.1 ≡ name.id

found_later : (s : Shelf) (t : List ℕ) (k : Option Name) (ks : List (Option Name)) (index : ℕ) (f : ℕ × SegId) → IsFound s t ks (index + 1) f → IsFound s t (k ∷ ks) index f
found_later s t k ks index f x = record {
  place = suc x.place;
  name = x.name;
  named = record { there = x.named.there; lives = x.named.lives };
  text = x.text;
  index_is = (let e = x.index_is in omega (arith, e));
  id_is = x.id_is;
}

pub found_is : (s : Shelf) (t : List ℕ) (names : List (Option Name)) (index : ℕ) (f : ℕ × SegId) → found_from s t names index ≡ Some f → IsFound s t names index f
found_is s t [] index f e = absurd (cc)
found_is s t (None ∷ ks) index f e = found_later s t None ks index f (found_is s t ks (index + 1) f e)
found_is s t (Some k ∷ ks) index f e = go (live_in s t (Some k)) refl e (found_is s t ks (index + 1) f)
  where
    go : (o : Option SegId) → live_in s t (Some k) ≡ o → found_or index o (found_from s t ks (index + 1)) ≡ Some f → (found_from s t ks (index + 1) ≡ Some f → IsFound s t ks (index + 1) f) → IsFound s t (Some k ∷ ks) index f
    go None is e rest = found_later s t (Some k) ks index f (rest e)
    go (Some id) is e rest =
        let l = live_is s t k id is in
        let z : (index, id) ≡ f = cc in
        record {
          place = 0;
          name = k;
          named = record { there = refl; lives = l.1 };
          text = l.0;
          index_is = (let y : index ≡ f.0 = ap (λ (g : ℕ × SegId). g.0) z in omega (arith, y));
          id_is = sym (ap (λ (g : ℕ × SegId). g.1) z) ∙ sym l.2;
        }

-- a name that lives is found, where the text isn't found no name has it
pub found_none : (s : Shelf) (names : List (Option Name)) (index place : ℕ) (k : Name) → found_from s k.text names index ≡ None → IsNamed s names place k → ⊥
found_none s [] index place k e named = absurd (let z : ◌≡◌ {A = Option Name} None (Some k) = named.there in cc)
found_none s (o ∷ ks) index zero k e named =
    let f : found_or index (live_in s k.text (Some k)) (found_from s k.text ks (index + 1)) ≡ None = subst (λ (x : Option Name). found_or index (live_in s k.text x) (found_from s k.text ks (index + 1)) ≡ None) named.there e in
    let g : ◌≡◌ {A = Option (ℕ × SegId)} (Some (index, k.id)) None = sym (ap (λ (x : Option SegId). found_or index x (found_from s k.text ks (index + 1))) (live_here s k named.lives)) ∙ f in
    cc
found_none s (o ∷ ks) index (suc place) k e named = found_none s ks (index + 1) place k (rest (live_in s k.text o) e) (record { there = named.there; lives = named.lives })
  where
    rest : (x : Option SegId) → found_or index x (found_from s k.text ks (index + 1)) ≡ None → found_from s k.text ks (index + 1) ≡ None
    rest None e = e
    rest (Some id) e = absurd (cc)

-- Where no two names have one text, it is found where the one name that has it lives.

pub found_nowhere : (s : Shelf) (t : List ℕ) (names : List (Option Name)) → LacksText names t → found_from s t names 4096 ≡ None
found_nowhere s t names nobody = go (found_from s t names 4096) refl
  where
    go : (o : Option (ℕ × SegId)) → found_from s t names 4096 ≡ o → o ≡ None
    go None e = refl
    go (Some f) e = let x = found_is s t names 4096 f e in absurd (nobody.other x.place x.name x.named.there x.text)

module _ (s : Shelf) (t : List ℕ) (names : List (Option Name)) (place : ℕ) (k : Name) (distinct : AreDistinct names) (there : name_at names place ≡ Some k) (text : k.text ≡ t) where
  -- what is found is that name
  only : (f : ℕ × SegId) → found_from s t names 4096 ≡ Some f → (f ≡ (4096 + place, k.id)) × IsSome (entry_of s k.id)
  only f e =
      let x = found_is s t names 4096 f e in
      let same : x.place ≡ place = distinct.once x.place place x.name k x.named.there there (x.text ∙ sym text) in
      let z : Some x.name ≡ Some k = sym x.named.there ∙ ap (name_at names) same ∙ there in
      let name : x.name ≡ k = cc in
      let index : f.0 ≡ 4096 + place = x.index_is ∙ ap (λ (i : ℕ). 4096 + i) same in
      let id : f.1 ≡ k.id = x.id_is ∙ ap (λ (y : Name). y.id) name in
      (ap (λ (i : ℕ). let p : ℕ × SegId = (i, f.1) in p) index ∙ ap (λ (j : SegId). let p : ℕ × SegId = (4096 + place, j) in p) id, ap (λ (y : Name). is_some (entry_of s y.id)) (sym name) ∙ x.named.lives)

  by_life : (alive : Bool) → is_some (entry_of s k.id) ≡ alive → (o : Option (ℕ × SegId)) → found_from s t names 4096 ≡ o → o ≡ cond alive (Some (4096 + place, k.id)) None
  by_life true is None e = absurd (found_none s names 4096 place k (ap (λ (u : List ℕ). found_from s u names 4096) text ∙ e) (record { there = there; lives = is }))
  by_life true is (Some f) e = ap (λ (p : ℕ × SegId). Some p) (only f e).0
  by_life false is None e = refl
  by_life false is (Some f) e = absurd (let z : false ≡ true = sym is ∙ (only f e).1 in cc)

  pub found_alive : (id : SegId) → live_of s (Some k) ≡ Some id → found_from s t names 4096 ≡ Some (4096 + place, id)
  found_alive id e = go (is_some (entry_of s k.id)) refl e
    where
      go : (b : Bool) → is_some (entry_of s k.id) ≡ b → cond b (Some k.id) None ≡ Some id → found_from s t names 4096 ≡ Some (4096 + place, id)
      go true is f = by_life true is (found_from s t names 4096) refl ∙ (let same : k.id ≡ id = cc in ap (λ (j : SegId). let p : Option (ℕ × SegId) = Some (4096 + place, j) in p) same)
      go false is f = absurd (cc)

  pub found_dead : live_of s (Some k) ≡ None → found_from s t names 4096 ≡ None
  found_dead e = go (is_some (entry_of s k.id)) refl e
    where
      go : (b : Bool) → is_some (entry_of s k.id) ≡ b → cond b (Some k.id) None ≡ None → found_from s t names 4096 ≡ None
      go true is f = absurd (cc)
      go false is f = by_life false is (found_from s t names 4096) refl

-- A new name.

-- the names live or not as before
pub found_same : (s u : Shelf) (t : List ℕ) (names : List (Option Name)) (index : ℕ) → ((place : ℕ) (k : Name) → get_or names place None ≡ Some k → is_some (entry_of u k.id) ≡ is_some (entry_of s k.id)) → found_from u t names index ≡ found_from s t names index
found_same s u t [] index same = refl
found_same s u t (k ∷ ks) index same =
    ap (λ (o : Option SegId). found_or index o (found_from u t ks (index + 1))) (live_same s u t k (same 0))
    ∙ ap (found_or index (live_in s t k)) (found_same s u t ks (index + 1) (λ place. same (suc place)))

-- a text that isn't found is that of the new name, in a place whose segment is gone
pub put_name : (s u : Shelf) (t : List ℕ) (names : List (Option Name)) (index place : ℕ) (new : Name) → place < length names → IsSome (entry_of u new.id)
    → ((j : ℕ) (k : Name) → get_or names j None ≡ Some k → is_some (entry_of u k.id) ≡ is_some (entry_of s k.id))
    → ((k : Name) → get_or names place None ≡ Some k → is_some (entry_of s k.id) ≡ false)
    → found_from s new.text names index ≡ None
    → age_of (found_from u t (set names place (Some new)) index) ≡ cond (same_text new.text t) (Some new.id.age) (age_of (found_from s t names index))
put_name s u t [] index place new l lives same dead none = absurd (omega arith)
put_name s u t (k ∷ ks) index zero new l lives same dead none =
    ap (λ (b : Bool). age_of (found_or index (cond (same_text new.text t && b) (Some new.id) None) (found_from u t ks (index + 1)))) lives
    ∙ here (same_text new.text t)
    ∙ ap (λ (o : Option (ℕ × SegId)). cond (same_text new.text t) (Some new.id.age) (age_of o)) (found_same s u t ks (index + 1) (λ j. same (suc j)))
    ∙ ap (λ (o : Option SegId). cond (same_text new.text t) (Some new.id.age) (age_of (found_or index o (found_from s t ks (index + 1))))) (sym (dead_none s t k dead))
  where
    here : (b : Bool) → age_of (found_or index (cond (b && true) (Some new.id) None) (found_from u t ks (index + 1))) ≡ cond b (Some new.id.age) (age_of (found_from u t ks (index + 1)))
    here true = refl
    here false = refl
put_name s u t (k ∷ ks) index (suc place) new l lives same dead none =
    ap (λ (o : Option SegId). age_of (found_or index o (found_from u t (set ks place (Some new)) (index + 1)))) (live_same s u t k (same 0))
    ∙ by_first (live_in s t k) refl (put_name s u t ks (index + 1) place new (omega arith) lives (λ j. same (suc j)) dead (rest (live_in s new.text k) none))
  where
    rest : (x : Option SegId) → found_or index x (found_from s new.text ks (index + 1)) ≡ None → found_from s new.text ks (index + 1) ≡ None
    rest None e = e
    rest (Some id) e = absurd (cc)

    -- the first one has not the text of the new one
    other : (o : Option Name) (id : SegId) → live_in s t o ≡ Some id → found_or index (live_in s new.text o) (found_from s new.text ks (index + 1)) ≡ None → same_text new.text t ≡ false
    other None id e f = absurd (cc)
    other (Some x) id e f = false_from_ne_true (same_text new.text t) (λ is.
        (let a = live_is s t x id e in
        let b : new.text ≡ t = same_is new.text t is in
        let c : live_in s new.text (Some x) ≡ Some x.id = ap (λ (y : List ℕ). live_in s y (Some x)) (b ∙ sym a.0) ∙ live_here s x a.1 in
        let d : ◌≡◌ {A = Option (ℕ × SegId)} (Some (index, x.id)) None = sym (ap (λ (o : Option SegId). found_or index o (found_from s new.text ks (index + 1))) c) ∙ f in
        absurd (cc)))

    by_first : (o : Option SegId) → live_in s t k ≡ o
        → age_of (found_from u t (set ks place (Some new)) (index + 1)) ≡ cond (same_text new.text t) (Some new.id.age) (age_of (found_from s t ks (index + 1)))
        → age_of (found_or index o (found_from u t (set ks place (Some new)) (index + 1))) ≡ cond (same_text new.text t) (Some new.id.age) (age_of (found_or index (live_in s t k) (found_from s t ks (index + 1))))
    by_first None e later = later ∙ ap (λ (o : Option SegId). cond (same_text new.text t) (Some new.id.age) (age_of (found_or index o (found_from s t ks (index + 1))))) (sym e)
    by_first (Some id) e later =
        sym (cond-false (same_text new.text t) (Some new.id.age) (Some id.age) (other k id e none))
        ∙ ap (λ (o : Option SegId). cond (same_text new.text t) (Some new.id.age) (age_of (found_or index o (found_from s t ks (index + 1))))) (sym e)
