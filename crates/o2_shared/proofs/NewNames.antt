-- What the row of a new name comes to, and what a new name leaves of the names.
use Rattle.std.proofs.Common.{◌≡◌, ◌≢◌, ℕ, ◌+◌, ◌<◌, ◌≤◌, ◌&&◌, ◌==◌, ◌⊎◌, inl, inr, Bool, true, false, cond, eqb, nat_le, nat_lt, List, [], ◌∷◌, length, get_or, set}
use Rattle.std.proofs.Common.{Option, Some, None, IsSome, is_some, ap, sym, ◌∙◌, refl, subst, arith}
use Rattle.std.proofs.lemmas.Bool.{and_from, and_parts, cases_eq, cond-false, cond-true, eq-eqb, eqb-true, false_from_ne_true, ne_eqb, or_parts}
use Rattle.std.proofs.lemmas.Bool.Decides.{nat_tests}
use Rattle.std.proofs.lemmas.List.{get_or-set_other, get_or-set_same}
use Rattle.o2_base.specs.Selectors.{selector_of}
use Rattle.o2_desc.specs.Bits.{writable_data}
use Rattle.o2_desc.specs.Choice.{IsRun, chosen}
use Rattle.o2_entries.specs.declared.Entry.{Entry}
use Rattle.o2_entries.specs.Tables.{live_numbers, slot_at}
use Rattle.o2_entries.proofs.Numbers.{listed-lt}
use Rattle.o2_place.specs.declared.seg_id.SegId.{SegId}
use Rattle.o2_regions.specs.declared.held.Held.{Held}
use Rattle.o2_regions.specs.declared.held.Region.{Region}
use Rattle.o2_regions.specs.declared.held.Region.TheVariants.{Shared}
use Rattle.o2_regions.specs.Kept.{AreKept}
use Rattle.o2_regions.specs.Maps.{Maps, end_of, first_of, held_at, is_held, is_of, is_reserved, is_taken, more_of, region_of}
use Rattle.o2_store.specs.Shelf.{Shelf, Adds, aged, entry_of}
use Rattle.o2_store.proofs.Tables.{slot-set_other, slot-set_same}
use Rattle.o2_changes.specs.Holding.{Grants, IsUnheld, KeepsHolds}
use Rattle.o2_changes.specs.Worlds.{MatchesHold, new_segment}
use Rattle.o2_changes.proofs.MakesStand.{new_plain}
use Rattle.o2_stands.specs.Knows.{Others, known_in}
use Rattle.o2_stands.specs.Parts.{Parts}
use Rattle.o2_stands.specs.Stands.{Matches}
use Rattle.o2_world.specs.Changes.{Change, Holds, Makes, Names, with_all, with_change, with_changes}
use Rattle.o2_world.specs.Holders.{process_at}
use Rattle.o2_world.specs.Known.{Known, same_text, text_name}
use Rattle.o2_world.specs.Rulings.{Ruling, free_index, full_size, grants, held_by_call, refusal}
use Rattle.o2_world.specs.SharedNames.{folded, is_name, name_by}
use Rattle.o2_world.specs.SharedRulings.{naming, naming_at, shared_segment}
use Rattle.o2_world.specs.World.{Process, World}
use Rattle.o2_segs.specs.Made.{made_by_call}
use Rattle.o2_shared.specs.declared.names.Name.{Name}
use Rattle.o2_shared.specs.Shares.{naming_to}
use Rattle.o2_shared.specs.Texts.{AreInPlace, AreOnce, AreTexts, IsHeldOnly, IsNamed, age_of, found_from}
use Rattle.o2_shared.proofs.Finding.{found_none, put_name}
use Rattle.o2_shared.proofs.Holders.{shared_region}

-- The ruling.

pub naming_bad : (k : Known) (pid size : ℕ) (text : List ℕ) → is_name text ≡ false → naming k pid size (name_by (Some text)) ≡ refusal 123
naming_bad k pid size text e = ap (naming k pid size) (cond-false (is_name text) (Some (folded text)) None e)

naming_good : (k : Known) (pid size : ℕ) (text : List ℕ) → is_name text ≡ true → naming k pid size (name_by (Some text)) ≡ cond (is_some (k.text (folded text))) (refusal 183) (naming_to k pid size (folded text) (free_index k 0))
naming_good k pid size text e = ap (naming k pid size) (cond-true (is_name text) (Some (folded text)) None e)

pub naming_known : (k : Known) (pid size : ℕ) (text : List ℕ) → is_name text ≡ true → IsSome (k.text (folded text)) → naming k pid size (name_by (Some text)) ≡ refusal 183
naming_known k pid size text e known = naming_good k pid size text e ∙ cond-true (is_some (k.text (folded text))) (refusal 183) (naming_to k pid size (folded text) (free_index k 0)) known

pub naming_new : (p : Parts) (o : Others) (m : Maps) (pid size : ℕ) (text : List ℕ) (to : Option ℕ) → is_name text ≡ true → o.text (folded text) ≡ None → p.maps ≡ m → to ≡ chosen (is_taken m Shared) 4096 8192 1
    → naming (known_in p o) pid size (name_by (Some text)) ≡ naming_to (known_in p o) pid size (folded text) to
naming_new p o m pid size text to e new em is =
    naming_good (known_in p o) pid size text e
    ∙ cond-false (is_some (o.text (folded text))) (refusal 183) (naming_to (known_in p o) pid size (folded text) (free_index (known_in p o) 0)) (ap is_some new)
    ∙ ap (naming_to (known_in p o) pid size (folded text)) (ap (λ (x : Maps). chosen (is_taken x Shared) 4096 8192 1) em ∙ sym is)

pub to_none : (k : Known) (pid size : ℕ) (name : List ℕ) → naming_to k pid size name None ≡ refusal 8
to_none k pid size name = go (nat_le k.most k.count)
  where
    go : (b : Bool) → cond b (refusal 8) (refusal 8) ≡ refusal 8
    go true = refl
    go false = refl

pub to_full : (p : Parts) (o : Others) (s : Shelf) (pid size i : ℕ) (name : List ℕ) → p.shelf ≡ s → length (live_numbers 0 s.entries) ≡ length s.entries → naming_to (known_in p o) pid size name (Some i) ≡ refusal 8
to_full p o s pid size i name es full =
    cond-true (nat_le (length p.shelf.entries) (length (live_numbers 0 p.shelf.entries))) (refusal 8) (naming_at (known_in p o) pid size name (Some i))
    (subst (λ (x : Shelf). nat_le (length x.entries) (length (live_numbers 0 x.entries)) ≡ true) (sym es) (all (length s.entries) (length (live_numbers 0 s.entries)) full))
  where
    all : (n l : ℕ) → l ≡ n → nat_le n l ≡ true
    all n l e = grind (arith, nat_tests)

-- what a new name changes
abbrev pub named_changes : (pid size index made : ℕ) (name : List ℕ) → List Change
named_changes pid size i made name = Makes (shared_segment size) ∷ Holds pid i (held_by_call made) ∷ Names name made ∷ []

pub to_some : (p : Parts) (o : Others) (s t : Shelf) (id : SegId) (e : Entry) (pid size i : ℕ) (name : List ℕ) → p.shelf ≡ s → Adds s t id e → naming_to (known_in p o) pid size name (Some i) ≡ grants (selector_of i) (named_changes pid size i id.age name)
to_some p o s t id e pid size i name es adds =
    cond-false (nat_le (length p.shelf.entries) (length (live_numbers 0 p.shelf.entries))) (refusal 8) (naming_at (known_in p o) pid size name (Some i))
    (subst (λ (x : Shelf). nat_le (length x.entries) (length (live_numbers 0 x.entries)) ≡ false) (sym es) (some (length s.entries) (length (live_numbers 0 s.entries)) (listed-lt 0 s.entries id.key adds.within adds.vacant)))
    ∙ ap (λ (k : ℕ). grants (selector_of i) (named_changes pid size i k name)) (ap (λ (x : Shelf). x.made) es ∙ sym adds.age)
  where
    some : (n l : ℕ) → l < n → nat_le n l ≡ false
    some n l e = grind (arith, nat_tests)

-- The segment and its hold.

pub run_shared : (m : Maps) (pid i : ℕ) → IsRun (is_taken m Shared) 4096 8192 1 i → IsRun (is_taken m (region_of pid i)) (first_of (region_of pid i)) (end_of (region_of pid i)) 1 i
run_shared m pid i run = subst (λ (g : Region). IsRun (is_taken m g) (first_of g) (end_of g) 1 i) (sym (shared_region pid i run.0)) run

pub named_matches : (p : Parts) (w : World) (x : Process) (s t : Shelf) (m n : Maps) (id : SegId) (pid size full i : ℕ) (name : List ℕ) (r : Ruling)
    → r ≡ grants (selector_of i) (named_changes pid size i id.age name) → id.age ≡ w.next_name → full ≡ full_size size → IsSome (entry_of t id) → MatchesHold t m n pid i (made_by_call id) writable_data → process_at w.processes pid ≡ Some x
    → Matches (record p { shelf = t; maps = m }) (with_change w (Makes (new_segment full 0 true))) → Matches (record p { shelf = t; maps = n }) (with_all w r.changes)
unfolding with_changes
named_matches p w x s t m n id pid size full i name r is age same live hold at q =
    subst (λ (y : Ruling). Matches (record p { shelf = t; maps = n }) (with_all w y.changes)) (sym is)
    (subst (λ (k : ℕ). Matches (record p { shelf = t; maps = n }) (with_change (with_change w (Makes (new_segment k 0 true))) (Holds pid i (held_by_call id.age)))) same
    (hold.world (record p { shelf = t; maps = m }) (with_change w (Makes (new_segment full 0 true))) x refl refl at (λ writable. new_plain (record p { shelf = t; maps = m }) w (new_segment full 0 true) id q live age refl) q))

-- The texts.

at_most : (n most : ℕ) → nat_le n most ≡ true → n ≤ most
at_most n most t = grind arith

-- a name has 128 bytes at most
pub name_short : (text : List ℕ) → is_name text ≡ true → length text ≤ 128
name_short text e = at_most (length text) 128 (and_parts (nat_le (length text) 128) _ (and_parts (nat_lt 10 (length text)) _ (and_parts _ _ e).1).1).0

-- a text that is looked up is known or not
pub text_known : (s : Shelf) (names : List (Option Name)) (look : List ℕ → Option ℕ) (text : List ℕ) (r : Option (ℕ × SegId)) → AreTexts s names look → r ≡ found_from s text names 4096 → is_some r ≡ true → IsSome (look text)
text_known s names look text r texts e some = ap is_some (texts.each text ∙ ap age_of (sym e)) ∙ go r some
  where
    go : (r : Option (ℕ × SegId)) → is_some r ≡ true → is_some (age_of r) ≡ true
    go None e = absurd (cc)
    go (Some f) e = refl

pub found_nothing : (r f : Option (ℕ × SegId)) → r ≡ f → is_some r ≡ false → f ≡ None
found_nothing r f e none = sym e ∙ go r none
  where
    go : (r : Option (ℕ × SegId)) → is_some r ≡ false → r ≡ None
    go None e = refl
    go (Some g) e = absurd (cc)

pub text_new : (s : Shelf) (names : List (Option Name)) (look : List ℕ → Option ℕ) (text : List ℕ) → AreTexts s names look → found_from s text names 4096 ≡ None → look text ≡ None
text_new s names look text texts e = texts.each text ∙ ap age_of e

-- with the changes of a new name
pub named_texts : (t : Shelf) (names : List (Option Name)) (w : World) (pid size i made value : ℕ) (name : List ℕ) (r : Ruling) → r
    ≡ grants value (named_changes pid size i made name) → AreTexts t names (text_name ((name, made) ∷ w.texts))
    → AreTexts t names (text_name (with_all w r.changes).texts)
unfolding with_changes
named_texts t names w pid size i made value name r is behind = subst (λ (x : Ruling). AreTexts t names (text_name (with_all w x.changes).texts)) (sym is) behind

pub texts_none : (s : Shelf) (names : List (Option Name)) (w : World) (r : Ruling) (error : ℕ) → r ≡ refusal error → AreTexts s names (text_name w.texts) → AreTexts s names (text_name (with_all w r.changes).texts)
unfolding with_changes
texts_none s names w r error is was = subst (λ (x : Ruling). AreTexts s names (text_name (with_all w x.changes).texts)) (sym is) was

-- no text stands twice behind it
pub once_none : (w : World) (r : Ruling) (error : ℕ) → r ≡ refusal error → AreOnce w.texts → AreOnce (with_all w r.changes).texts
unfolding with_changes
once_none w r error is once = subst (λ (x : Ruling). AreOnce (with_all w x.changes).texts) (sym is) once

pub named_once : (w : World) (pid size i made value : ℕ) (name : List ℕ) (r : Ruling) → r ≡ grants value (named_changes pid size i made name) → text_name w.texts name ≡ None → AreOnce w.texts → AreOnce (with_all w r.changes).texts
unfolding with_changes
named_once w pid size i made value name r is new once = subst (λ (x : Ruling). AreOnce (with_all w x.changes).texts) (sym is) (new, once)

-- A new segment has a name.
module _ (s t : Shelf) (m n : Maps) (id : SegId) (e : Entry) (names : List (Option Name)) (place pid i : ℕ) (name : List ℕ) (adds : Adds s t id e) (made : e.age ≡ s.made) (places : AreInPlace s m names) (index : i ≡ 4096 + place) (long : place < length names)
    (run : IsRun (is_taken m Shared) 4096 8192 1 i) (kept : AreKept m) (unheld : IsUnheld m id) (new : found_from s name names 4096 ≡ None) (lives : IsSome (entry_of t id)) (grants_it : Grants m n pid i (made_by_call id) writable_data) (keeps : KeepsHolds m n) where
  abbrev this : Name
  this = record { text = name; id = id }

  gone : (k : ℕ) → k < s.made → is_some (aged k (Some e)) ≡ false
  gone k older = ap is_some (cond-false (eqb e.age k) (Some e) None (ne_eqb e.age k (λ is. omega (arith, is, made))))

  same_lives : (k : SegId) → k.age < s.made → is_some (entry_of t k) ≡ is_some (entry_of s k)
  same_lives k older = ap (λ (x : Shelf). is_some (entry_of x k)) adds.shelf ∙ go (cases_eq k.key id.key)
    where
      go : (k.key ≡ id.key) ⊎ (k.key ≡ id.key → ⊥) → is_some (aged k.age (slot_at (set s.entries id.key (Some e)) k.key)) ≡ is_some (aged k.age (slot_at s.entries k.key))
      go (inl is) =
          ap (λ (j : ℕ). is_some (aged k.age (slot_at (set s.entries id.key (Some e)) j))) is
          ∙ ap (λ (o : Option Entry). is_some (aged k.age o)) (slot-set_same s.entries id.key (Some e) adds.within)
          ∙ gone k.age older
          ∙ sym (ap (λ (j : ℕ). is_some (aged k.age (slot_at s.entries j))) is ∙ ap (λ (o : Option Entry). is_some (aged k.age o)) adds.vacant)
      go (inr isnt) = ap (λ (o : Option Entry). is_some (aged k.age o)) (slot-set_other s.entries id.key k.key (Some e) isnt)

  -- nobody held the index
  nobody : (q : ℕ) → held_at m q i ≡ None
  nobody q = go (held_at m q i) refl
    where
      go : (o : Option Held) → held_at m q i ≡ o → o ≡ None
      go None e = refl
      go (Some h) e =
          let a : is_reserved m Shared i ≡ true = ap (λ (g : Region). is_reserved m g i) (sym (shared_region q i run.0)) ∙ kept.covered q i h e in
          let b : is_reserved m Shared i ≡ false = (or_parts (is_held m Shared i) (is_reserved m Shared i) (run.2 i (omega arith) (omega arith))).1 in
          let z : false ≡ true = sym b ∙ a in
          absurd (cc)

  -- the name that the index had is no more
  dead : (k : Name) → get_or names place None ≡ Some k → is_some (entry_of s k.id) ≡ false
  dead k there = false_from_ne_true (is_some (entry_of s k.id)) (λ alive.
      (let h = places.held place k (record { there = there; lives = alive }) in
      let z : ◌≡◌ {A = Option Held} None (Some h.held) = sym (nobody h.process) ∙ ap (held_at m h.process) index ∙ h.there in
      absurd (cc)))

  same_at : (j : ℕ) (k : Name) → get_or names j None ≡ Some k → is_some (entry_of t k.id) ≡ is_some (entry_of s k.id)
  same_at j k there = same_lives k.id (places.older j k there)

  pub new_texts : (texts : List (List ℕ × ℕ)) → AreTexts s names (text_name texts) → AreTexts t (set names place (Some this)) (text_name ((name, id.age) ∷ texts))
  new_texts texts was = record {
    each = λ u. ap (λ (o : Option ℕ). cond (same_text name u) (Some id.age) o) (was.each u) ∙ sym (put_name s t u names 4096 place this long lives same_at dead new);
  }

  -- the new name, or one that was there before
  either : (j : ℕ) (k : Name) → get_or (set names place (Some this)) j None ≡ Some k → ((j ≡ place) × (this ≡ k)) ⊎ ((j ≢ place) × (get_or names j None ≡ Some k))
  either j k e = go (cases_eq j place)
    where
      go : (j ≡ place) ⊎ (j ≡ place → ⊥) → ((j ≡ place) × (this ≡ k)) ⊎ ((j ≢ place) × (get_or names j None ≡ Some k))
      go (inl is) = (let z : Some this ≡ Some k = sym (ap (λ (x : ℕ). get_or (set names place (Some this)) x None) is ∙ get_or-set_same names place (Some this) None long) ∙ e in inl (is, let y : this ≡ k = cc in y))
      go (inr isnt) = inr (isnt, sym (get_or-set_other names place j (Some this) None isnt) ∙ e)

  before : (j : ℕ) (k : Name) → get_or names j None ≡ Some k → IsSome (entry_of t k.id) → IsNamed s names j k
  before j k there alive = record { there = there; lives = sym (same_at j k there) ∙ alive }

  held_here : held_at n pid i ≡ Some (made_by_call id)
  held_here =
      grants_it.held pid i
      ∙ cond-true ((pid == pid) && (i == i)) (more_of (held_at m pid i) (made_by_call id)) (held_at m pid i) (and_from (pid == pid) (i == i) (eq-eqb pid pid refl) (eq-eqb i i refl))
      ∙ ap (λ (o : Option Held). more_of o (made_by_call id)) (nobody pid)

  -- who holds something behind it holds the new segment at its index, or held it before
  holds_either : (q j : ℕ) (h : Held) → held_at n q j ≡ Some h → ((j ≡ i) × (made_by_call id ≡ h)) ⊎ (held_at m q j ≡ Some h)
  holds_either q j h e = go ((q == pid) && (j == i)) refl (sym (grants_it.held q j) ∙ e)
    where
      go : (b : Bool) → ((q == pid) && (j == i)) ≡ b → cond b (more_of (held_at m pid i) (made_by_call id)) (held_at m q j) ≡ Some h → ((j ≡ i) × (made_by_call id ≡ h)) ⊎ (held_at m q j ≡ Some h)
      go true is f =
          let z : Some (made_by_call id) ≡ Some h = sym (ap (λ (o : Option Held). more_of o (made_by_call id)) (nobody pid)) ∙ f in
          inl (eqb-true j i (and_parts (q == pid) (j == i) is).1, let y : made_by_call id ≡ h = cc in y)
      go false is f = inr f

  no_hold : (q j : ℕ) (h : Held) → held_at m q j ≡ Some h → h.id ≡ id → ⊥
  no_hold q j h e is =
      let a : is_of id (Some h) ≡ false = sym (ap (is_of id) e) ∙ unheld q j in
      let b : is_of id (Some h) ≡ true = and_from (h.id.key == id.key) (h.id.age == id.age) (eq-eqb h.id.key id.key (ap (λ (x : SegId). x.key) is)) (eq-eqb h.id.age id.age (ap (λ (x : SegId). x.age) is)) in
      let z : false ≡ true = sym a ∙ b in
      cc

  pub new_places : AreInPlace t n (set names place (Some this))
  new_places = record {
    held = λ j k named. held_by j k (either j k named.there) named.lives;
    once = λ j l k o a b text. once_by j l k o (either j k a.there) (either l o b.there) a.lives b.lives text;
    older = λ j k there. older_by j k (either j k there);
  }
    where
      held_by : (j : ℕ) (k : Name) → ((j ≡ place) × (this ≡ k)) ⊎ ((j ≢ place) × (get_or names j None ≡ Some k)) → IsSome (entry_of t k.id) → IsHeldOnly n (4096 + j) k.id
      held_by j k (inl is) alive =
          let there : i ≡ 4096 + j = index ∙ ap (λ (x : ℕ). 4096 + x) (sym is.0) in
          record {
            process = pid;
            held = made_by_call id;
            there = sym (ap (held_at n pid) there) ∙ held_here;
            same = ap (λ (x : Name). x.id) is.1;
            only = λ q x h at same. elim (holds_either q x h at) [
              | inl y ↦ y.0 ∙ there
              | inr y ↦ absurd (no_hold q x h y (same ∙ sym (ap (λ (z : Name). z.id) is.1)))
            ];
          }
      held_by j k (inr is) alive =
          let was = places.held j k (before j k is.1 alive) in
          record {
            process = was.process;
            held = was.held;
            there = keeps.held was.process (4096 + j) was.held was.there;
            same = was.same;
            only = λ q x h at same. elim (holds_either q x h at) [
              | inl y ↦ (let a : id.age ≡ k.id.age = ap (λ (z : Held). z.id.age) y.1 ∙ ap (λ (z : SegId). z.age) same in
                  let b = places.older j k is.1 in
                  let c = adds.age in
                  absurd (omega (arith, a, b, c)))
              | inr y ↦ was.only q x h y same
            ];
          }

      once_by : (j l : ℕ) (k o : Name) → ((j ≡ place) × (this ≡ k)) ⊎ ((j ≢ place) × (get_or names j None ≡ Some k)) → ((l ≡ place) × (this ≡ o)) ⊎ ((l ≢ place) × (get_or names l None ≡ Some o))
          → IsSome (entry_of t k.id) → IsSome (entry_of t o.id) → k.text ≡ o.text → j ≡ l
      once_by j l k o (inl a) (inl b) x y text = a.0 ∙ sym b.0
      once_by j l k o (inl a) (inr b) x y text =
          absurd (found_none s names 4096 l o (subst (λ (u : List ℕ). found_from s u names 4096 ≡ None) (ap (λ (z : Name). z.text) a.1 ∙ text) new) (before l o b.1 y))
      once_by j l k o (inr a) (inl b) x y text =
          absurd (found_none s names 4096 j k (subst (λ (u : List ℕ). found_from s u names 4096 ≡ None) (ap (λ (z : Name). z.text) b.1 ∙ sym text) new) (before j k a.1 x))
      once_by j l k o (inr a) (inr b) x y text = places.once j l k o (before j k a.1 x) (before l o b.1 y) text

      older_by : (j : ℕ) (k : Name) → ((j ≡ place) × (this ≡ k)) ⊎ ((j ≢ place) × (get_or names j None ≡ Some k)) → k.id.age < t.made
      older_by j k (inl is) =
          let a : id.age ≡ k.id.age = ap (λ (z : Name). z.id.age) is.1 in
          let b : t.made ≡ s.made + 1 = ap (λ (x : Shelf). x.made) adds.shelf in
          let c = adds.age in
          omega (arith, a, b, c)
      older_by j k (inr is) =
          let a = places.older j k is.1 in
          let b : t.made ≡ s.made + 1 = ap (λ (x : Shelf). x.made) adds.shelf in
          omega (arith, a, b)
