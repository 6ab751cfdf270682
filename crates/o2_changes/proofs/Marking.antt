-- What a machine matches where a segment is discarded or made anew.
use Rattle.std.proofs.Common.{◌≡◌, ◌≢◌, ℕ, ◌+◌, ◌<◌, ◌≤◌, inl, inr, List, [], length, Option, Some, None, is_some, IsSome, IfSome, Bool, true, false, cond, eqb, option_map, get_or, nat_lt, refl, sym, ap, ◌∙◌, subst, set}
use Rattle.std.proofs.lemmas.Bool.{cases_eq, cond-true, cond-false, eq-eqb, ne_eqb}
use Rattle.std.proofs.lemmas.List.{length-set}
use Rattle.o2_desc.specs.declared.descriptor.Descriptor.{Descriptor}
use Rattle.o2_desc.specs.Bits.{is_writable, rights_of}
use Rattle.o2_image.specs.ImageList.{ImageList}
use Rattle.o2_place.specs.Layout.{Layout, find_in}
use Rattle.o2_store.specs.Sizes.{Resizes}
use Rattle.o2_entries.specs.declared.Attr.{Attr}
use Rattle.o2_entries.specs.declared.Entry.{Entry}
use Rattle.o2_entries.specs.Tables.{slot_at}
use Rattle.o2_place.specs.declared.seg_id.SegId.{SegId}
use Rattle.o2_regions.specs.declared.held.Held.{Held}
use Rattle.o2_regions.specs.Maps.{Maps, held_at as held_there}
use Rattle.o2_regions.proofs.Writes.{get_or-same}
use Rattle.o2_segbus.specs.Guards.{AreAged}
use Rattle.o2_segbus.specs.Seen.{key_of}
use Rattle.o2_segbus.specs.Settled.{Describes, IsSettled, IsSettledAt, descriptor_at}
use Rattle.o2_segbus.proofs.Ages.{named_by_age}
use Rattle.o2_service.specs.Told.{AreToldBut, IsHeldWell, IsToldWhere, OnlyTables}
use Rattle.o2_service.proofs.Amounts.{live_within}
use Rattle.o2_service.proofs.Placing.{only_refl, told_still}
use Rattle.o2_store.specs.Needs.{has_age}
use Rattle.o2_store.specs.Pictures.{picture}
use Rattle.o2_store.specs.Shelf.{Shelf, AreClean, Discards, HasAll, IsDiscardable, Pictures, aged, byte_at, discarded_entry, entry, entry_of, entry_or, place_of, source_byte}
use Rattle.o2_store.proofs.Tables.{slot-set_other, slot-set_same}
use Rattle.o2_swapmap.specs.Piles.{Blocks, all_of}
use Rattle.o2_world.specs.Map.{at_key, get}
use Rattle.o2_world.specs.World.{Segment, World}
use Rattle.o2_world.specs.Changes.{Marks, Resizes as ResizesChange, marked, with_change}
use Rattle.o2_world.proofs.MapLemmas.{get-at_key}
use Rattle.o2_world.proofs.TiedChanges.{zeros_length}
use Rattle.o2_stands.specs.Parts.{Parts}
use Rattle.o2_stands.specs.Stands.{IsNamed, IsSegment, Matches}
use Rattle.o2_stands.proofs.Moves.{held_same, in_same, index_same, taken_same}
use Rattle.o2_changes.specs.Order.{IsGuarded, IsInOrder}
use Rattle.o2_changes.specs.Segments.{Revives}
use Rattle.o2_changes.proofs.Matching.{size_matches}
use Rattle.o2_changes.proofs.SizesMatch.{StaysAs, each as each_sized}
use Rattle.o2_changes.proofs.Guarding.{still_guarded, told_guarded}
use Rattle.o2_changes.proofs.Keys.{aged_has, has_is, live_key, other_key, same_key}
use Rattle.o2_changes.proofs.Named.{named_same}
use Rattle.o2_changes.proofs.Segmenting.{order_by}

-- one segment's entry changes, and keeps its age, its size, and whether it is clean; no image comes to it
pub record AltersOne (s t : Shelf) (id : SegId) : Type 0 where
  pub count : length t.entries ≡ length s.entries
  pub live : IsSome (slot_at t.entries id.key)
  pub age : (entry t id.key).age ≡ (entry s id.key).age
  pub size : (entry t id.key).size ≡ (entry s id.key).size
  pub clean : (entry t id.key).attr.clean ≡ (entry s id.key).attr.clean
  pub image : (x : ℕ × ℕ) → (entry t id.key).image ≡ Some x → (entry s id.key).image ≡ Some x
  pub others : (k : ℕ) → k ≢ id.key → slot_at t.entries k ≡ slot_at s.entries k
  pub bytes : (pic : Pictures) (block : ℕ → List ℕ) (k j : ℕ) → k ≢ id.key → byte_at t pic block k j ≡ byte_at s pic block k j
  pub made : t.made ≡ s.made
  pub map : all_of t.swap ≡ all_of s.swap

-- what stays of each entry
record Stays (o u : Option Entry) : Type 0 where
  live : is_some u ≡ is_some o
  age : (entry_or u).age ≡ (entry_or o).age
  size : (entry_or u).size ≡ (entry_or o).size
  clean : (entry_or u).attr.clean ≡ (entry_or o).attr.clean
  image : (x : ℕ × ℕ) → (entry_or u).image ≡ Some x → (entry_or o).image ≡ Some x

module _ (s t : Shelf) (id : SegId) (live : IsSome (entry_of s id)) (a : AltersOne s t id) where
  each : (k : ℕ) → Stays (slot_at s.entries k) (slot_at t.entries k)
  each k = elim (cases_eq k id.key) [
    | inr n ↦ subst (λ (o : Option Entry). Stays (slot_at s.entries k) o) (sym (a.others k n)) (record { live = refl; age = refl; size = refl; clean = refl; image = λ x e. e })
    | inl same ↦ subst (λ (j : ℕ). Stays (slot_at s.entries j) (slot_at t.entries j)) (sym same) (record {
      live = a.live ∙ sym (has_is (slot_at s.entries id.key) id.age (sym (aged_has id.age (slot_at s.entries id.key)) ∙ live)).0;
      age = a.age;
      size = a.size;
      clean = a.clean;
      image = a.image;
    })
  ]

  has_same : (k q : ℕ) → has_age (slot_at t.entries k) q ≡ has_age (slot_at s.entries k) q
  has_same k q = go (slot_at s.entries k) (slot_at t.entries k) (each k).live (each k).age
    where
      go : (o u : Option Entry) → is_some u ≡ is_some o → (entry_or u).age ≡ (entry_or o).age → has_age u q ≡ has_age o q
      go None None e f = refl
      go None (Some y) e f = absurd (cc)
      go (Some x) None e f = absurd (cc)
      go (Some x) (Some y) e f = ap (λ (n : ℕ). eqb n q) f

  pub altered_key : (q : ℕ) → key_of t q ≡ key_of s q
  altered_key q = same_key s t q a.count (λ k. has_same k q)

  pub altered_aged : AreAged s → AreAged t
  altered_aged was j k x y e = was j k (sym (each j).live ∙ x) (sym (each k).live ∙ y) (sym (each j).age ∙ e ∙ (each k).age)

  pub altered_live : (other : SegId) → IsSome (entry_of s other) → IsSome (entry_of t other)
  altered_live other there =
      aged_has other.age (slot_at t.entries other.key) ∙ has_same other.key other.age ∙ sym (aged_has other.age (slot_at s.entries other.key)) ∙ there

  pub altered_held : (m : Maps) → IsHeldWell s m → IsHeldWell t m
  altered_held m w = record { live = λ pid i h e. altered_live h.id (w.live pid i h e); inside = w.inside }

  pub altered_guards : (m n : Maps) → OnlyTables m n → IsGuarded s m → IsGuarded t n
  altered_guards m n only g = record {
    aged = altered_aged g.aged;
    guarded = told_guarded t m n only (still_guarded s t m (λ q j h e. (each h.id.key).clean) g.guarded);
  }

  pub altered_pictures : (has : ℕ → ℕ → Type 0) → HasAll has s → HasAll has t
  altered_pictures has was k x y e = was k x y ((each k).image (x, y) e)

  pub altered_told : (m : Maps) → ((k : ℕ) → k ≢ id.key → place_of t k ≡ place_of s k) → IsSettled s m → AreToldBut id.key t m
  altered_told m places was = told_still (λ k. k ≢ id.key) s t m was places (λ k. (each k).size)

  pub altered_order : (m : Maps) → ((k : ℕ) → place_of t k ≡ place_of s k) → IsInOrder s m → IsInOrder t m
  altered_order m places o = order_by s t m (λ pid i h e. altered_live h.id (o.held.live pid i h e)) (λ pid i h e. ((each h.id.key).size, places h.id.key)) o

  altered_clean : (k : ℕ) → (entry t k).attr.clean ≡ (entry s k).attr.clean
  altered_clean k = (each k).clean

-- The segment's new meaning in the world is told of it alone.
module _ (p : Parts) (w : World) (t : Shelf) (m : Maps) (id : SegId) (discarded : Bool) (live : IsSome (entry_of p.shelf id)) (a : AltersOne p.shelf t id) (only : OnlyTables p.maps m)
    (own : (g : Segment) → IsSegment p id.key g → IsSegment (record p { shelf = t; maps = m }) id.key (marked discarded g)) (stands : Matches p w) where
  named_other : (q : ℕ) → q ≢ id.age → (o : Option ℕ) (g : Option Segment) → key_of p.shelf q ≡ o → IsNamed p o g → IsNamed (record p { shelf = t; maps = m }) o g
  named_other q n None None e is = is
  named_other q n (Some k) None e is = absurd is
  named_other q n None (Some g) e is = absurd is
  named_other q n (Some k) (Some g) e is =
      let f = other_key p.shelf id q k live n e in
      named_same p t m k g (ap entry_or (a.others k f)) (λ j. a.bytes (picture p.images) p.block k j f) is

  named_own : (g : Option Segment) → IsNamed p (Some id.key) g → IsNamed (record p { shelf = t; maps = m }) (Some id.key) (option_map (marked discarded) g)
  named_own None is = absurd is
  named_own (Some g) is = own g is

  segments_now : (q : ℕ) → IsNamed (record p { shelf = t; maps = m }) (key_of t q) (get (at_key id.age (marked discarded) w.names) q)
  segments_now q =
      let new : Option Segment = option_map (marked discarded) (get w.names id.age) in
      let there = live_key p.shelf id stands.ready.aged live in
      subst (λ (g : Option Segment). IsNamed (record p { shelf = t; maps = m }) (key_of t q) g) (sym (get-at_key id.age q (marked discarded) w.names))
      (subst (λ (o : Option ℕ). IsNamed (record p { shelf = t; maps = m }) o (cond (eqb id.age q) new (get w.names q))) (sym (altered_key p.shelf t id live a q))
      (elim (cases_eq id.age q) [
        | inl e ↦
            subst (λ (g : Option Segment). IsNamed (record p { shelf = t; maps = m }) (key_of p.shelf q) g) (sym (cond-true (eqb id.age q) new (get w.names q) (eq-eqb id.age q e)))
            (subst (λ (o : Option ℕ). IsNamed (record p { shelf = t; maps = m }) o new) (sym (ap (key_of p.shelf) (sym e) ∙ there)) (named_own (get w.names id.age) (subst (λ (o : Option ℕ). IsNamed p o (get w.names id.age)) there (stands.segments id.age))))
        | inr n ↦
            subst (λ (g : Option Segment). IsNamed (record p { shelf = t; maps = m }) (key_of p.shelf q) g) (sym (cond-false (eqb id.age q) new (get w.names q) (ne_eqb id.age q n)))
            (named_other q (λ e. n (sym e)) (key_of p.shelf q) (get w.names q) refl (stands.segments q))
      ]))

  alters_match : AreClean t (picture p.images) → IsInOrder t m → Matches (record p { shelf = t; maps = m }) (with_change w (Marks id.age discarded))
  alters_match clean order = record {
    ready = record {
      aged = altered_aged p.shelf t id live a stands.ready.aged;
      named = named_by_age t m (altered_aged p.shelf t id live a stands.ready.aged) order.held.live;
      held = order.held;
      settled = order.settled;
      guarded = λ pid i h e u.
          altered_clean p.shelf t id live a h.id.key
          ∙ stands.ready.guarded pid i h (sym (held_same p.maps m pid i (ap (λ (x : Maps). x.held) only.rest)) ∙ e) (subst (λ (x : ℕ). is_writable x ≡ true) (only.rights pid i) u);
      clean = clean;
      pictures = altered_pictures p.shelf t id live a _ stands.ready.pictures;
      device = subst (λ (x : ℕ). x ≤ p.device) (sym a.map) stands.ready.device;
    };
    segments = segments_now;
    made = stands.made ∙ sym a.made;
    processes = stands.processes;
    held = λ n i. stands.held n i ∙ sym (in_same p.maps m n i (ap (λ (x : Maps). x.held) only.rest) (only.rights n i));
    taken = λ g i x. stands.taken g i (index_same p.maps m g i (ap (λ (x : Maps). x.processes) only.rest) x) ∙ sym (taken_same p.maps m g i (ap (λ (x : Maps). x.processes) only.rest) (ap (λ (x : Maps). x.held) only.rest) (ap (λ (x : Maps). x.reserved) only.rest));
  }

-- Discarding.

module _ (s t : Shelf) (id : SegId) (live : IsSome (entry_of s id)) (d : Discards s t id.key) where
  discarded_there : slot_at t.entries id.key ≡ Some (discarded_entry (entry s id.key))
  discarded_there = ap (λ (x : Shelf). slot_at x.entries id.key) d.shelf ∙ slot-set_same s.entries id.key (Some (discarded_entry (entry s id.key))) (live_within s id live)

  pub discards_one : all_of t.swap ≡ all_of s.swap → AltersOne s t id
  discards_one map =
      let same : entry t id.key ≡ discarded_entry (entry s id.key) = ap entry_or discarded_there in
      record {
        count = ap (λ (x : Shelf). length x.entries) d.shelf ∙ length-set s.entries id.key (Some (discarded_entry (entry s id.key)));
        live = ap is_some discarded_there;
        age = ap (λ (x : Entry). x.age) same;
        size = ap (λ (x : Entry). x.size) same;
        clean = ap (λ (x : Entry). x.attr.clean) same;
        image = λ x e. absurd (none_some x (sym (ap (λ (y : Entry). y.image) same) ∙ e));
        others = d.entries;
        bytes = d.bytes;
        made = ap (λ (x : Shelf). x.made) d.shelf;
        map = map;
      }
    where
      none_some : (x : ℕ × ℕ) → None ≡ Some x → ⊥
      none_some x e = cc

pub discard_matches : (s t : Shelf) (m n : Maps) (id : SegId) → IsSome (entry_of s id) → Discards s t id.key → all_of t.swap ≡ all_of s.swap → OnlyTables m n → ((pic : Pictures) → AreClean s pic → AreClean t pic) → IsInOrder t n
    → (p : Parts) (w : World) → p.shelf ≡ s → p.maps ≡ m → Matches p w → Matches (record p { shelf = t; maps = n }) (with_change w (Marks id.age true))
discard_matches s t m n id live d map only clean order p w es em q =
    go (subst (λ (x : Shelf). IsSome (entry_of x id)) (sym es) live) (subst (λ (x : Shelf). Discards x t id.key) (sym es) d) (map ∙ ap (λ (x : Shelf). all_of x.swap) (sym es))
    (subst (λ (x : Maps). OnlyTables x n) (sym em) only) (clean (picture p.images) (subst (λ (x : Shelf). AreClean x (picture p.images)) es q.ready.clean))
  where
    go : IsSome (entry_of p.shelf id) → Discards p.shelf t id.key → all_of t.swap ≡ all_of p.shelf.swap → OnlyTables p.maps n → AreClean t (picture p.images)
        → Matches (record p { shelf = t; maps = n }) (with_change w (Marks id.age true))
    go there e same tables now = alters_match p w t n id true there (discards_one p.shelf t id there e same) tables own q now order
      where
        own : (g : Segment) → IsSegment p id.key g → IsSegment (record p { shelf = t; maps = n }) id.key (marked true g)
        own g is =
            let same : entry t id.key ≡ discarded_entry (entry p.shelf id.key) = ap entry_or (discarded_there p.shelf t id there e) in
            record {
              size = zeros_length (length g.bytes) ∙ is.size ∙ ap (λ (x : Entry). x.size) (sym same);
              bytes = λ j low. get_or-same (length g.bytes) j 0 ∙ sym (e.zeros (picture p.images) p.block j);
              clean = is.clean ∙ ap (λ (x : Entry). x.attr.clean) (sym same);
              flags = is.flags ∙ ap (λ (x : Entry). x.attr.flags) (sym same);
              lock = is.lock ∙ ap (λ (x : Entry). x.attr.lock) (sym same);
              shared = is.shared ∙ ap (λ (x : Entry). x.attr.shared) (sym same);
              discarded = ap (λ (x : Entry). x.attr.gone) (sym same);
            }

-- what the store asks for
pub kind_there : (age : ℕ) (o : Option Entry) → IsDiscardable (entry_or o).attr → IfSome (aged age o) (λ e. IsDiscardable e.attr)
kind_there age None k = tt
kind_there age (Some e) k = go (eqb e.age age)
  where
    go : (b : Bool) → IfSome (cond b (Some e) None) (λ x. IsDiscardable x.attr)
    go true = k
    go false = tt

-- Made anew.

pub sets_mark : (s t : Shelf) (id : SegId) (a : Attr) → IsSome (entry_of s id) → t ≡ record s { turns = t.turns; entries = set s.entries id.key (Some (record (entry s id.key) { attr = a })) }
    → ((pic : Pictures) (block : ℕ → List ℕ) (k j : ℕ) → byte_at t pic block k j ≡ byte_at s pic block k j) → a ≡ record (entry s id.key).attr { gone = false } → Revives s t id
sets_mark s t id a live is bytes same =
    let es = ap (λ (x : Shelf). x.entries) is in
    record {
      shelf = is ∙ ap (λ (x : List (Option Entry)). record s { turns = t.turns; entries = x }) (sym es);
      count = ap length es ∙ length-set s.entries id.key (Some (record (entry s id.key) { attr = a }));
      here = ap (λ (x : List (Option Entry)). slot_at x id.key) es ∙ slot-set_same s.entries id.key (Some (record (entry s id.key) { attr = a })) (live_within s id live)
          ∙ ap (λ (x : Attr). Some (record (entry s id.key) { attr = x })) same;
      others = λ k n. ap (λ (x : List (Option Entry)). slot_at x k) es ∙ slot-set_other s.entries id.key k (Some (record (entry s id.key) { attr = a })) n;
      bytes = bytes;
    }

pub revives_one : (s t : Shelf) (id : SegId) → Revives s t id → AltersOne s t id
revives_one s t id r =
    let same : entry t id.key ≡ record (entry s id.key) { attr = record (entry s id.key).attr { gone = false } } = ap entry_or r.here in
    record {
      count = r.count;
      live = ap is_some r.here;
      age = ap (λ (x : Entry). x.age) same;
      size = ap (λ (x : Entry). x.size) same;
      clean = ap (λ (x : Entry). x.attr.clean) same;
      image = λ x e. sym (ap (λ (y : Entry). y.image) same) ∙ e;
      others = r.others;
      bytes = λ pic block k j n. r.bytes pic block k j;
      made = ap (λ (x : Shelf). x.made) r.shelf;
      map = ap (λ (x : Shelf). all_of x.swap) r.shelf;
    }

pub revived_clean : (s t : Shelf) (id : SegId) → IsSome (entry_of s id) → Revives s t id → (pic : Pictures) → AreClean s pic → AreClean t pic
revived_clean s t id live r pic was = record {
  bytes = λ k at len j clean place low block.
      (let e = revived_entry k in
      ap (λ (x : Shelf). get_or x.memory (at + j) 0) r.shelf
      ∙ was.bytes k at len j (sym (ap (λ (x : Entry). x.attr.clean) e) ∙ clean) (sym (ap (λ (x : Shelf). place_of x k) r.shelf) ∙ place) (subst (λ (x : Entry). j < x.size) e low) block
      ∙ sym (ap (λ (x : Entry). cond (nat_lt j x.kept) (source_byte x.image pic t.swap block k j) 0) e
      ∙ ap (λ (b : Blocks). cond (nat_lt j (entry s k).kept) (source_byte (entry s k).image pic b block k j) 0) (ap (λ (x : Shelf). x.swap) r.shelf)));
}
  where
    -- but for the mark
    revived_entry : (k : ℕ) → entry t k ≡ record (entry s k) { attr = record (entry s k).attr { gone = (entry t k).attr.gone } }
    revived_entry k = elim (cases_eq k id.key) [
      | inr n ↦ (let e : entry t k ≡ entry s k = ap entry_or (r.others k n) in e ∙ ap (λ (x : Bool). record (entry s k) { attr = record (entry s k).attr { gone = x } }) (sym (ap (λ (y : Entry). y.attr.gone) e)))
      | inl same ↦ subst (λ (j : ℕ). entry t j ≡ record (entry s j) { attr = record (entry s j).attr { gone = (entry t j).attr.gone } }) (sym same)
          (let e : entry t id.key ≡ record (entry s id.key) { attr = record (entry s id.key).attr { gone = false } } = ap entry_or r.here in
          e ∙ ap (λ (x : Bool). record (entry s id.key) { attr = record (entry s id.key).attr { gone = x } }) (sym (ap (λ (y : Entry). y.attr.gone) e)))
    ]

pub revive_matches : (s t : Shelf) (m : Maps) (id : SegId) → IsSome (entry_of s id) → Revives s t id → IsInOrder t m
    → (p : Parts) (w : World) → p.shelf ≡ s → p.maps ≡ m → Matches p w → Matches (record p { shelf = t; maps = m }) (with_change w (Marks id.age false))
revive_matches s t m id live r order p w es em q =
    go (subst (λ (x : Shelf). IsSome (entry_of x id)) (sym es) live) (subst (λ (x : Shelf). Revives x t id) (sym es) r) (subst (λ (x : Maps). OnlyTables x m) (sym em) (only_refl m))
  where
    go : IsSome (entry_of p.shelf id) → Revives p.shelf t id → OnlyTables p.maps m → Matches (record p { shelf = t; maps = m }) (with_change w (Marks id.age false))
    go there e only = alters_match p w t m id false there (revives_one p.shelf t id e) only own q (revived_clean p.shelf t id there e (picture p.images) q.ready.clean) order
      where
        own : (g : Segment) → IsSegment p id.key g → IsSegment (record p { shelf = t; maps = m }) id.key (marked false g)
        own g is =
            let same : entry t id.key ≡ record (entry p.shelf id.key) { attr = record (entry p.shelf id.key).attr { gone = false } } = ap entry_or e.here in
            record {
              size = is.size ∙ ap (λ (x : Entry). x.size) (sym same);
              bytes = λ j low. is.bytes j (subst (λ (x : Entry). j < x.size) same low) ∙ sym (e.bytes (picture p.images) p.block id.key j);
              clean = is.clean ∙ ap (λ (x : Entry). x.attr.clean) (sym same);
              flags = is.flags ∙ ap (λ (x : Entry). x.attr.flags) (sym same);
              lock = is.lock ∙ ap (λ (x : Entry). x.attr.lock) (sym same);
              shared = is.shared ∙ ap (λ (x : Entry). x.attr.shared) (sym same);
              discarded = ap (λ (x : Entry). x.attr.gone) (sym same);
            }

-- a lock is above 0 only of a segment in memory
pub locked_there : (age : ℕ) (o : Option Entry) (place : Option (ℕ × ℕ)) (a : Attr) → (0 < (entry_or o).attr.lock → IsSome place) → a ≡ (entry_or o).attr → 0 < a.lock → IsSome place
locked_there age o place a f e l = f (subst (λ (x : Attr). 0 < x.lock) e l)

-- Another size out of memory.

-- no images, and blocks with nothing
abbrev pub no_images : ImageList
no_images = record { modules = []; environments = [] }

abbrev pub none_there : ℕ → List ℕ
none_there n = []

module _ (s t : Shelf) (key size : ℕ) (r : Resizes true (picture no_images) s none_there t none_there key size) where
  sized_each : (k : ℕ) → StaysAs (slot_at s.entries k) (slot_at t.entries k)
  sized_each = each_sized s t true no_images none_there none_there key size r

  same_has : (k q : ℕ) → has_age (slot_at t.entries k) q ≡ has_age (slot_at s.entries k) q
  same_has k q = go (slot_at s.entries k) (slot_at t.entries k) (sized_each k).live (sized_each k).age
    where
      go : (o u : Option Entry) → is_some u ≡ is_some o → (entry_or u).age ≡ (entry_or o).age → has_age u q ≡ has_age o q
      go None None e f = refl
      go None (Some y) e f = absurd (cc)
      go (Some x) None e f = absurd (cc)
      go (Some x) (Some y) e f = ap (λ (n : ℕ). eqb n q) f

  there_sized : (id : SegId) → IsSome (entry_of s id) → IsSome (entry_of t id)
  there_sized id live = aged_has id.age (slot_at t.entries id.key) ∙ same_has id.key id.age ∙ sym (aged_has id.age (slot_at s.entries id.key)) ∙ live

pub sized_live : (s t : Shelf) (id : SegId) (size : ℕ) → Resizes true (picture no_images) s none_there t none_there id.key size → IsSome (entry_of s id) → IsSome (entry_of t id)
sized_live s t id size r live = there_sized s t id.key size r id live

pub sized_held : (s t : Shelf) (m : Maps) (key size : ℕ) → Resizes true (picture no_images) s none_there t none_there key size → IsHeldWell s m → IsHeldWell t m
sized_held s t m key size r w = record { live = λ pid i h e. there_sized s t key size r h.id (w.live pid i h e); inside = w.inside }

pub sized_told : (s t : Shelf) (m : Maps) (key size : ℕ) → Resizes true (picture no_images) s none_there t none_there key size → t.places ≡ s.places → IsSettled s m → AreToldBut key t m
sized_told s t m key size r places was = record { each = λ pid i. go (held_there m pid i) (descriptor_at m pid i) (was pid i) }
  where
    go : (o : Option Held) (d : Descriptor) → IsSettledAt s o d → IsToldWhere (λ k. k ≢ key) t o d
    go None d x = x
    go (Some h) d x = λ other.
        subst (λ (n : ℕ). Describes (place_of t h.id.key) n (rights_of d.access) d) (sym (r.same h.id.key other).size)
        (subst (λ (z : Layout). Describes (find_in z.ranges h.id.key) (entry s h.id.key).size (rights_of d.access) d) (sym places) x)

pub out_matches : (s t : Shelf) (m n : Maps) (id : SegId) (size : ℕ) → IsSome (entry_of s id) → ((told : Bool) (pic : Pictures) (block : ℕ → List ℕ) → Resizes told pic s block t block id.key size) → OnlyTables m n
    → ((pic : Pictures) → AreClean s pic → AreClean t pic) → IsInOrder t n → all_of t.swap ≡ all_of s.swap
    → (p : Parts) (w : World) → p.shelf ≡ s → p.maps ≡ m → Matches p w → Matches (record p { shelf = t; maps = n }) (with_change w (ResizesChange id.age size))
out_matches s t m n id size live resizes only clean order map p w es em q =
    size_matches s t m n p.images true p.block p.block id size live (resizes true (picture p.images) p.block) only
    (clean (picture p.images) (subst (λ (x : Shelf). AreClean x (picture p.images)) es q.ready.clean)) order map p w es em refl refl refl q
