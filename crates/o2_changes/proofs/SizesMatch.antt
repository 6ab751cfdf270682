-- What a machine matches behind a segment's new size.
use Rattle.std.specs.Prelude.{IsTrue}
use Rattle.std.proofs.Common.{◌≡◌, ◌≢◌, ℕ, ◌-◌, ◌<◌, ◌≤◌, inl, inr, List, length, take, Option, Some, None, is_some, IsSome, Bool, true, cond, eqb, option_map, get_or, refl, sym, ap, ◌∙◌, subst, arith, length-append}
use Rattle.std.specs.Prelude.{replicate}
use Rattle.std.proofs.lemmas.Bool.{cases_eq, cases_lt, cond-true, cond-false, eq-eqb, ne_eqb}
use Rattle.std.proofs.lemmas.List.{get_or-append_right, get_or_append_left, get_or-take, length-replicate, length-take}
use Rattle.o2_desc.specs.Bits.{is_writable}
use Rattle.o2_entries.specs.declared.Attr.{Attr}
use Rattle.o2_entries.specs.declared.Entry.{Entry}
use Rattle.o2_entries.specs.Tables.{slot_at}
use Rattle.o2_image.specs.ImageList.{ImageList}
use Rattle.o2_place.specs.declared.seg_id.SegId.{SegId}
use Rattle.o2_regions.specs.Maps.{Maps}
use Rattle.o2_regions.proofs.Writes.{get_or-same}
use Rattle.o2_segbus.specs.Guards.{AreAged}
use Rattle.o2_segbus.specs.Seen.{key_of}
use Rattle.o2_segbus.proofs.Ages.{named_by_age}
use Rattle.o2_service.specs.Told.{OnlyTables}
use Rattle.o2_store.specs.Needs.{has_age}
use Rattle.o2_store.specs.Pictures.{picture}
use Rattle.o2_store.specs.Shelf.{Shelf, AreClean, entry, entry_of, entry_or}
use Rattle.o2_store.specs.Sizes.{Resizes}
use Rattle.o2_swapmap.specs.Piles.{all_of}
use Rattle.o2_world.specs.Map.{at_key, get}
use Rattle.o2_world.specs.World.{Segment, World}
use Rattle.o2_world.specs.Changes.{Resizes as ResizesChange, resized, with_change}
use Rattle.o2_world.proofs.MapLemmas.{get-at_key}
use Rattle.o2_stands.specs.Moves.{moved}
use Rattle.o2_stands.specs.Parts.{Parts, byte_in}
use Rattle.o2_stands.specs.Stands.{IsNamed, IsSegment, Matches}
use Rattle.o2_stands.proofs.Moves.{held_same, in_same, index_same, taken_same}
use Rattle.o2_changes.specs.Order.{IsInOrder}
use Rattle.o2_changes.proofs.Keys.{live_key, other_key, same_key}

-- a list of another length
pub resized_long : (size : ℕ) (bytes : List ℕ) → length (resized size bytes) ≡ size
resized_long size bytes =
    let a = length-append (take size bytes) (replicate (size - length bytes) 0) in
    let b : length {A = ℕ} (replicate (size - length bytes) 0) ≡ size - length bytes = length-replicate (size - length bytes) 0 in
    let c = length-take size bytes in
    omega (arith, a, b, c)

-- its front is that of the old one, and zeros come behind
resized_front : (size : ℕ) (bytes : List ℕ) (j : ℕ) → j < size → j < length bytes → get_or (resized size bytes) j 0 ≡ get_or bytes j 0
resized_front size bytes j a b =
    let c = length-take size bytes in
    get_or_append_left (take size bytes) (replicate (size - length bytes) 0) 0 j (omega (arith, a, b, c)) ∙ get_or-take size bytes j 0 a

resized_rest : (size : ℕ) (bytes : List ℕ) (j : ℕ) → length bytes ≤ j → j < size → get_or (resized size bytes) j 0 ≡ 0
resized_rest size bytes j a b =
    let c = length-take size bytes in
    let d : length (take size bytes) ≡ length bytes = omega (arith, a, b, c) in
    get_or-append_right (take size bytes) (replicate (size - length bytes) 0) (length bytes) j 0 d a ∙ get_or-same (size - length bytes) (j - length bytes) 0

-- what stays of each entry
pub record StaysAs (o u : Option Entry) : Type 0 where
  pub live : is_some u ≡ is_some o
  pub age : (entry_or u).age ≡ (entry_or o).age
  pub attr : (entry_or u).attr ≡ (entry_or o).attr
  pub image : (x : ℕ × ℕ) → (entry_or u).image ≡ Some x → (entry_or o).image ≡ Some x

module _ (s t : Shelf) (told : Bool) (images : ImageList) (before after : ℕ → List ℕ) (key size : ℕ) (r : Resizes told (picture images) s before t after key size) where
  pub each : (k : ℕ) → StaysAs (slot_at s.entries k) (slot_at t.entries k)
  each k = elim (cases_eq k key) [
    | inr n ↦ (let e = r.same k n in record { live = e.live; age = e.age; attr = e.attr; image = e.image })
    | inl same ↦ subst (λ (j : ℕ). StaysAs (slot_at s.entries j) (slot_at t.entries j)) (sym same) (record { live = r.here.live; age = r.here.age; attr = r.here.attr; image = r.here.image })
  ]

  has_same : (k q : ℕ) → has_age (slot_at t.entries k) q ≡ has_age (slot_at s.entries k) q
  has_same k q = go (slot_at s.entries k) (slot_at t.entries k) (each k).live (each k).age
    where
      go : (o u : Option Entry) → is_some u ≡ is_some o → (entry_or u).age ≡ (entry_or o).age → has_age u q ≡ has_age o q
      go None None a b = refl
      go None (Some y) a b = absurd (cc)
      go (Some x) None a b = absurd (cc)
      go (Some x) (Some y) a b = ap (λ (n : ℕ). eqb n q) b

  sized_key : (q : ℕ) → key_of t q ≡ key_of s q
  sized_key q = same_key s t q r.count (λ k. has_same k q)

  pub sized_aged : AreAged s → AreAged t
  sized_aged a j k x y e = a j k (sym (each j).live ∙ x) (sym (each k).live ∙ y) (sym (each j).age ∙ e ∙ (each k).age)

module _ (p : Parts) (w : World) (t : Shelf) (m : Maps) (after : ℕ → List ℕ) (told : Bool) (id : SegId) (size : ℕ) (tells : IsTrue told)
    (r : Resizes told (picture p.images) p.shelf p.block t after id.key size) (only : OnlyTables p.maps m)
    (live : IsSome (entry_of p.shelf id)) (stands : Matches p w) where
  named_other : (q : ℕ) → q ≢ id.age → (o : Option ℕ) (g : Option Segment) → key_of p.shelf q ≡ o → IsNamed p o g → IsNamed (moved p t m after) o g
  named_other q n None None e is = is
  named_other q n (Some k) None e is = absurd is
  named_other q n None (Some s) e is = absurd is
  named_other q n (Some k) (Some s) e is =
      let f = other_key p.shelf id q k live n e in
      let c = r.same k f in
      record {
        size = is.size ∙ sym c.size;
        bytes = λ j low. (let l : j < (entry p.shelf k).size = subst (λ (x : ℕ). j < x) c.size low in is.bytes j l ∙ sym (r.others tells k j f l));
        clean = is.clean ∙ ap (λ (a : Attr). a.clean) (sym c.attr);
        flags = is.flags ∙ ap (λ (a : Attr). a.flags) (sym c.attr);
        lock = is.lock ∙ ap (λ (a : Attr). a.lock) (sym c.attr);
        shared = is.shared ∙ ap (λ (a : Attr). a.shared) (sym c.attr);
        discarded = is.discarded ∙ ap (λ (a : Attr). a.gone) (sym c.attr);
      }

  own_bytes : (s : Segment) → IsSegment p id.key s → (j : ℕ) → j < size → get_or (resized size s.bytes) j 0 ≡ byte_in (moved p t m after) id.key j
  own_bytes s is j low = elim (cases_lt j (length s.bytes)) [
    | inl l ↦ (let z = is.size in let f : j < (entry p.shelf id.key).size = omega (arith, l, z) in
        resized_front size s.bytes j low l ∙ is.bytes j f ∙ sym (r.front tells j f low))
    | inr l ↦ (let z = is.size in resized_rest size s.bytes j l low ∙ sym (r.zeros j (omega (arith, l, z)) low))
  ]

  named_own : (g : Option Segment) → IsNamed p (Some id.key) g → IsNamed (moved p t m after) (Some id.key) (option_map (λ (s : Segment). record s { bytes = resized size s.bytes }) g)
  named_own None is = absurd is
  named_own (Some s) is = record {
    size = resized_long size s.bytes ∙ sym r.here.sized;
    bytes = λ j low. own_bytes s is j (subst (λ (x : ℕ). j < x) r.here.sized low);
    clean = is.clean ∙ ap (λ (a : Attr). a.clean) (sym r.here.attr);
    flags = is.flags ∙ ap (λ (a : Attr). a.flags) (sym r.here.attr);
    lock = is.lock ∙ ap (λ (a : Attr). a.lock) (sym r.here.attr);
    shared = is.shared ∙ ap (λ (a : Attr). a.shared) (sym r.here.attr);
    discarded = is.discarded ∙ ap (λ (a : Attr). a.gone) (sym r.here.attr);
  }

  segments_now : (q : ℕ) → IsNamed (moved p t m after) (key_of t q) (get (at_key id.age (λ (s : Segment). record s { bytes = resized size s.bytes }) w.names) q)
  segments_now q =
      let new : Option Segment = option_map (λ (s : Segment). record s { bytes = resized size s.bytes }) (get w.names id.age) in
      let own = live_key p.shelf id stands.ready.aged live in
      subst (λ (g : Option Segment). IsNamed (moved p t m after) (key_of t q) g) (sym (get-at_key id.age q (λ (s : Segment). record s { bytes = resized size s.bytes }) w.names))
      (subst (λ (o : Option ℕ). IsNamed (moved p t m after) o (cond (eqb id.age q) new (get w.names q))) (sym (sized_key p.shelf t told p.images p.block after id.key size r q))
      (elim (cases_eq id.age q) [
        | inl e ↦
            subst (λ (g : Option Segment). IsNamed (moved p t m after) (key_of p.shelf q) g) (sym (cond-true (eqb id.age q) new (get w.names q) (eq-eqb id.age q e)))
            (subst (λ (o : Option ℕ). IsNamed (moved p t m after) o new) (sym (ap (key_of p.shelf) (sym e) ∙ own)) (named_own (get w.names id.age) (subst (λ (o : Option ℕ). IsNamed p o (get w.names id.age)) own (stands.segments id.age))))
        | inr n ↦
            subst (λ (g : Option Segment). IsNamed (moved p t m after) (key_of p.shelf q) g) (sym (cond-false (eqb id.age q) new (get w.names q) (ne_eqb id.age q n)))
            (named_other q (λ e. n (sym e)) (key_of p.shelf q) (get w.names q) refl (stands.segments q))
      ]))

  pub sizes_match : AreClean t (picture p.images) → IsInOrder t m → all_of t.swap ≡ all_of p.shelf.swap → Matches (moved p t m after) (with_change w (ResizesChange id.age size))
  sizes_match clean order all = record {
    ready = record {
      aged = sized_aged p.shelf t told p.images p.block after id.key size r stands.ready.aged;
      named = named_by_age t m (sized_aged p.shelf t told p.images p.block after id.key size r stands.ready.aged) order.held.live;
      held = order.held;
      settled = order.settled;
      guarded = λ pid i h e u.
          ap (λ (a : Attr). a.clean) (each p.shelf t told p.images p.block after id.key size r h.id.key).attr
          ∙ stands.ready.guarded pid i h (sym (held_same p.maps m pid i (ap (λ (x : Maps). x.held) only.rest)) ∙ e) (subst (λ (x : ℕ). is_writable x ≡ true) (only.rights pid i) u);
      clean = clean;
      pictures = λ k n seg x. stands.ready.pictures k n seg ((each p.shelf t told p.images p.block after id.key size r k).image (n, seg) x);
      device = (let d = stands.ready.device in omega (arith, all, d));
    };
    segments = segments_now;
    made = stands.made ∙ sym r.made;
    processes = stands.processes;
    held = λ n i. stands.held n i ∙ sym (in_same p.maps m n i (ap (λ (x : Maps). x.held) only.rest) (only.rights n i));
    taken = λ g i x. stands.taken g i (index_same p.maps m g i (ap (λ (x : Maps). x.processes) only.rest) x) ∙ sym (taken_same p.maps m g i (ap (λ (x : Maps). x.processes) only.rest) (ap (λ (x : Maps). x.held) only.rest) (ap (λ (x : Maps). x.reserved) only.rest));
  }
