-- What the row of a name that is looked up comes to over a store.
use Rattle.std.proofs.Common.{◌≡◌, ℕ, ◌+◌, ◌<◌, ◌≤◌, ◌==◌, ◌&&◌, not, Bool, true, false, cond, List, [], ◌++◌, Option, Some, None, option_map, ap, sym, ◌∙◌, refl, subst, arith}
use Rattle.std.proofs.lemmas.Bool.{and_parts, cond-false, cond-true, eqb-true, not-false}
use Rattle.o2_base.specs.Selectors.{selector_of}
use Rattle.o2_desc.proofs.Choices.{chosen_law, one_choice}
use Rattle.o2_place.specs.declared.seg_id.SegId.{SegId}
use Rattle.o2_regions.specs.declared.held.Held.{Held as HeldThere}
use Rattle.o2_regions.specs.Maps.{Maps, held_at as held_there}
use Rattle.o2_segbus.specs.Seen.{AreNamed, key_of}
use Rattle.o2_store.specs.Shelf.{Shelf, entry}
use Rattle.o2_stands.specs.Knows.{Others, known_in}
use Rattle.o2_stands.specs.Parts.{Parts, cause_of, held_in, held_of}
use Rattle.o2_world.specs.Known.{Known}
use Rattle.o2_world.specs.Rulings.{by_load, grants, refusal}
use Rattle.o2_world.specs.SharedNames.{folded, is_name, name_by}
use Rattle.o2_world.specs.SharedRulings.{held_by, holder, index_of, is_share, is_shared, one_more, sharing, sharing_at, sharing_from, sharing_of}
use Rattle.o2_segs.proofs.Selecting.{marks_are}
use Rattle.o2_shared.specs.declared.names.Name.{Name}
use Rattle.o2_shared.specs.Shares.{holder_in, is_share_of}
use Rattle.o2_shared.specs.Texts.{AreInPlace, AreTexts, IsHeldOnly, age_of, found_from}
use Rattle.o2_shared.proofs.Finding.{found_is}
use Rattle.o2_shared.proofs.Shares.{at_both, holder_is, shared_to}

-- The text.

pub sharing_bad : (k : Known) (pid : ℕ) (text : List ℕ) → is_name text ≡ false → sharing k pid (name_by (Some text)) ≡ refusal 123
sharing_bad k pid text e = ap (sharing k pid) (cond-false (is_name text) (Some (folded text)) None e)

sharing_good : (k : Known) (pid : ℕ) (text : List ℕ) (q : Option ℕ) → is_name text ≡ true → k.text (folded text) ≡ q → sharing k pid (name_by (Some text)) ≡ sharing_of k pid q
sharing_good k pid text q e is = ap (sharing k pid) (cond-true (is_name text) (Some (folded text)) None e) ∙ ap (sharing_of k pid) is

module _ (p : Parts) (o : Others) (s : Shelf) (names : List (Option Name)) (pid : ℕ) (text : List ℕ) (good : is_name text ≡ true) (texts : AreTexts s names o.text) where
  pub sharing_none : None ≡ found_from s (folded text) names 4096 → sharing (known_in p o) pid (name_by (Some text)) ≡ refusal 2
  sharing_none e = sharing_good (known_in p o) pid text None good (texts.each (folded text) ∙ ap age_of (sym e))

  pub sharing_some : (f : ℕ × SegId) → Some f ≡ found_from s (folded text) names 4096 → sharing (known_in p o) pid (name_by (Some text)) ≡ sharing_at (known_in p o) pid (index_of (known_in p o) f.1.age)
  sharing_some f e = sharing_good (known_in p o) pid text (Some f.1.age) good (texts.each (folded text) ∙ ap age_of (sym e))

-- The index of a name.

-- what is found is held there alone
pub found_held : (s : Shelf) (m : Maps) (names : List (Option Name)) (text : List ℕ) (f : ℕ × SegId) → AreInPlace s m names → Some f ≡ found_from s text names 4096 → IsHeldOnly m f.0 f.1
found_held s m names text f places e =
    let x = found_is s text names 4096 f (sym e) in
    subst (λ (i : ℕ). IsHeldOnly m i f.1) (sym x.index_is) (subst (λ (id : SegId). IsHeldOnly m (4096 + x.place) id) (sym x.id_is) (places.held x.place x.name x.named))

-- the same age, the same segment
pub one_segment : (s : Shelf) (m : Maps) (q j r i : ℕ) (h k : HeldThere) → AreNamed s m → held_there m q j ≡ Some h → held_there m r i ≡ Some k → h.id.age ≡ k.id.age → h.id ≡ k.id
one_segment s m q j r i h k named a b age =
    let x : Some h.id.key ≡ Some k.id.key = sym (named q j h a) ∙ ap (key_of s) age ∙ named r i k b in
    let key : h.id.key ≡ k.id.key = cc in
    ap (λ (y : ℕ). let id : SegId = record { key = y; age = h.id.age } in id) key ∙ ap (λ (y : ℕ). let id : SegId = record { key = k.id.key; age = y } in id) age

module _ (p : Parts) (o : Others) (named : AreNamed p.shelf p.maps) (count : o.processes ≡ p.maps.processes) where
  seen_none : (j : ℕ) → holder_in p.maps j ≡ None → held_by (known_in p o) j (holder (known_in p o) j) ≡ None
  seen_none j e = ap (held_by (known_in p o) j) (holder_is p o p.maps j refl count ∙ e)

  seen_some : (j from : ℕ) → holder_in p.maps j ≡ Some from → held_by (known_in p o) j (holder (known_in p o) j) ≡ option_map (held_of p.maps from j) (held_there p.maps from j)
  unfolding held_in
  seen_some j from e = ap (held_by (known_in p o) j) (holder_is p o p.maps j refl count ∙ e)

  shared_marks : (q from j : ℕ) (h : HeldThere) → held_there p.maps from j ≡ Some h → is_share (known_in p o) q (Some (held_of p.maps from j h)) ≡ is_share_of p.shelf q h
  shared_marks q from j h there = ap (λ (b : Bool). (h.id.age == q) && b) (go (by_load (cause_of h.cause)))
    where
      go : (b : Bool) → is_shared (cond b None ((known_in p o).segment h.id.age)) ≡ (not b && (entry p.shelf h.id.key).attr.shared)
      go true = refl
      go false = ap is_shared (marks_are p o named from j h there)

  share_is : (q from j : ℕ) (h : HeldThere) → holder_in p.maps j ≡ Some from → held_there p.maps from j ≡ Some h → is_share (known_in p o) q (held_by (known_in p o) j (holder (known_in p o) j)) ≡ is_share_of p.shelf q h
  share_is q from j h e there = ap (is_share (known_in p o) q) (seen_some j from e ∙ ap (option_map (held_of p.maps from j)) there) ∙ shared_marks q from j h there

  -- a name is that of no other index
  elsewhere : (i j : ℕ) (id : SegId) → IsHeldOnly p.maps i id → is_share (known_in p o) id.age (held_by (known_in p o) j (holder (known_in p o) j)) ≡ true → j ≡ i
  elsewhere i j id only e = go (holder_in p.maps j) refl
    where
      by_held : (from : ℕ) → holder_in p.maps j ≡ Some from → (x : Option HeldThere) → held_there p.maps from j ≡ x → j ≡ i
      by_held from f None g =
          let z : false ≡ true = sym (ap (is_share (known_in p o) id.age) (seen_some j from f ∙ ap (option_map (held_of p.maps from j)) g)) ∙ e in
          absurd (cc)
      by_held from f (Some h) g =
          let a = and_parts (h.id.age == id.age) (not (by_load (cause_of h.cause)) && (entry p.shelf h.id.key).attr.shared) (sym (share_is id.age from j h f g) ∙ e) in
          let age : h.id.age ≡ only.held.id.age = eqb-true h.id.age id.age a.0 ∙ sym (ap (λ (y : SegId). y.age) only.same) in
          only.only from j h g (one_segment p.shelf p.maps from j only.process i h only.held named g only.there age ∙ only.same)

      go : (x : Option ℕ) → holder_in p.maps j ≡ x → j ≡ i
      go None f =
          let z : false ≡ true = sym (ap (is_share (known_in p o) id.age) (seen_none j f)) ∙ e in
          absurd (cc)
      go (Some from) f = by_held from f (held_there p.maps from j) refl

  abbrev passed_by : ℕ → ℕ → Bool
  passed_by q j = not (is_share (known_in p o) q (held_by (known_in p o) j (holder (known_in p o) j)))

  index_some : (i : ℕ) (id : SegId) → 4096 ≤ i → i < 8192 → IsHeldOnly p.maps i id → is_share (known_in p o) id.age (held_by (known_in p o) i (holder (known_in p o) i)) ≡ true → index_of (known_in p o) id.age ≡ Some i
  index_some i id low high only is = one_choice (passed_by id.age) 4096 8192 1 (index_of (known_in p o) id.age) (Some i) (chosen_law (passed_by id.age) 4096 8192 1) (
    (low, omega arith, λ j a b. (let same : j ≡ i = omega arith in subst (λ (x : ℕ). passed_by id.age x ≡ false) (sym same) (ap not is))),
    λ j less run. (let same : j ≡ i = elsewhere i j id only (not-false _ (run.2 j (omega arith) (omega arith))) in omega arith),
  )

  index_none : (i : ℕ) (id : SegId) → IsHeldOnly p.maps i id → is_share (known_in p o) id.age (held_by (known_in p o) i (holder (known_in p o) i)) ≡ false → index_of (known_in p o) id.age ≡ None
  index_none i id only isnt = one_choice (passed_by id.age) 4096 8192 1 (index_of (known_in p o) id.age) None (chosen_law (passed_by id.age) 4096 8192 1) (λ j run.
      (let e = not-false _ (run.2 j (omega arith) (omega arith)) in
      let same : j ≡ i = elsewhere i j id only e in
      let z : false ≡ true = sym isnt ∙ subst (λ (x : ℕ). is_share (known_in p o) id.age (held_by (known_in p o) x (holder (known_in p o) x)) ≡ true) same e in
      cc))

  named_nobody : (pid i : ℕ) (id : SegId) → IsHeldOnly p.maps i id → holder_in p.maps i ≡ None → sharing_at (known_in p o) pid (index_of (known_in p o) id.age) ≡ refusal 2
  named_nobody pid i id only e = ap (sharing_at (known_in p o) pid) (index_none i id only (ap (is_share (known_in p o) id.age) (seen_none i e)))

  named_other : (pid from i : ℕ) (id : SegId) (h : HeldThere) → IsHeldOnly p.maps i id → holder_in p.maps i ≡ Some from → held_there p.maps from i ≡ Some h → is_share_of p.shelf id.age h ≡ false
      → sharing_at (known_in p o) pid (index_of (known_in p o) id.age) ≡ refusal 2
  named_other pid from i id h only e there isnt = ap (sharing_at (known_in p o) pid) (index_none i id only (share_is id.age from i h e there ∙ isnt))

  named_done : (pid from i : ℕ) (id : SegId) (h : HeldThere) → 4096 ≤ i → i < 8192 → IsHeldOnly p.maps i id → holder_in p.maps i ≡ Some from → held_there p.maps from i ≡ Some h → is_share_of p.shelf id.age h ≡ true
      → sharing_at (known_in p o) pid (index_of (known_in p o) id.age) ≡ shared_to (selector_of i) pid i (held_of p.maps from i h)
  unfolding held_in
  named_done pid from i id h low high only e there is =
      ap (sharing_at (known_in p o) pid) (index_some i id low high only (share_is id.age from i h e there ∙ is))
      ∙ ap (sharing_from (known_in p o) pid i) (holder_is p o p.maps i refl count ∙ e)
      ∙ ap (λ (x : Option HeldThere). grants (selector_of i) (one_more pid i (option_map (held_of p.maps from i) x) ++ [])) there

-- The same over the store and the maps that a machine has.

module _ (p : Parts) (o : Others) (s : Shelf) (m : Maps) (pid i : ℕ) (id : SegId) (es : p.shelf ≡ s) (em : p.maps ≡ m) (count : o.processes ≡ m.processes) (named : AreNamed s m) (only : IsHeldOnly m i id) where
  pub name_nobody : holder_in m i ≡ None → sharing_at (known_in p o) pid (index_of (known_in p o) id.age) ≡ refusal 2
  name_nobody e =
      at_both p s m (λ x y. AreNamed x y → o.processes ≡ y.processes → IsHeldOnly y i id → holder_in y i ≡ None → sharing_at (known_in p o) pid (index_of (known_in p o) id.age) ≡ refusal 2) es em
      (λ a b c d. named_nobody p o a b pid i id c d) named count only e

  pub name_other : (from : ℕ) (h : HeldThere) → holder_in m i ≡ Some from → held_there m from i ≡ Some h → is_share_of s id.age h ≡ false → sharing_at (known_in p o) pid (index_of (known_in p o) id.age) ≡ refusal 2
  name_other from h e there isnt =
      at_both p s m (λ x y. AreNamed x y → o.processes ≡ y.processes → IsHeldOnly y i id → holder_in y i ≡ Some from → held_there y from i ≡ Some h → is_share_of x id.age h ≡ false
      → sharing_at (known_in p o) pid (index_of (known_in p o) id.age) ≡ refusal 2) es em
      (λ a b c d f g. named_other p o a b pid from i id h c d f g) named count only e there isnt

  pub name_done : (from : ℕ) (h : HeldThere) → 4096 ≤ i → i < 8192 → holder_in m i ≡ Some from → held_there m from i ≡ Some h → is_share_of s id.age h ≡ true
      → sharing_at (known_in p o) pid (index_of (known_in p o) id.age) ≡ shared_to (selector_of i) pid i (held_of m from i h)
  name_done from h low high e there is =
      at_both p s m (λ x y. AreNamed x y → o.processes ≡ y.processes → IsHeldOnly y i id → holder_in y i ≡ Some from → held_there y from i ≡ Some h → is_share_of x id.age h ≡ true
      → sharing_at (known_in p o) pid (index_of (known_in p o) id.age) ≡ shared_to (selector_of i) pid i (held_of y from i h)) es em
      (λ a b c d f g. named_done p o a b pid from i id h low high c d f g) named count only e there is
