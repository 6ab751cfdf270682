-- What a machine matches behind a new segment.
use Rattle.std.proofs.Common.{◌≡◌, ◌≢◌, ℕ, ◌+◌, ◌-◌, ◌<◌, ◌≤◌, ◌⊎◌, inl, inr, List, length, Option, Some, None, is_some, IsSome, Bool, true, false, cond, eqb, nat_lt, option_map, get_or, refl, sym, ap, ◌∙◌, subst, arith}
use Rattle.std.proofs.lemmas.Bool.{and_parts, cases_eq, cases_lt, cond-true, cond-false, eq-eqb, eqb-true, ne_eqb}
use Rattle.std.proofs.lemmas.List.{length-set}
use Rattle.o2_entries.specs.declared.Entry.{Entry}
use Rattle.o2_entries.specs.Tables.{slot_at}
use Rattle.o2_place.specs.declared.seg_id.SegId.{SegId}
use Rattle.o2_segbus.specs.Guards.{AreAged}
use Rattle.o2_segbus.specs.Seen.{key_of}
use Rattle.o2_segbus.proofs.Ages.{aged_key, ages_added, named_by_age}
use Rattle.o2_store.specs.Needs.{has_age}
use Rattle.o2_store.specs.Pictures.{picture, HasPicture}
use Rattle.o2_store.specs.Shelf.{Shelf, Adds, AreClean, HasAll, IsShelf, Pictures, byte_at, entry, entry_of, entry_or, out_byte, place_of, source_byte}
use Rattle.o2_store.proofs.Tables.{slot-past, slot-set_other, slot-set_same, within_at}
use Rattle.o2_swapmap.specs.Piles.{Blocks, all_of}
use Rattle.o2_world.specs.Map.{Map, at_key, get, put}
use Rattle.o2_world.specs.World.{Segment, World}
use Rattle.o2_world.specs.Changes.{Locks, Makes, with_change}
use Rattle.o2_world.proofs.MapLemmas.{get-at_key}
use Rattle.o2_world.proofs.Reached.{get-put}
use Rattle.o2_stands.specs.Parts.{Parts}
use Rattle.o2_stands.specs.Stands.{IsNamed, IsSegment, Matches}
use Rattle.o2_changes.specs.Order.{IsGuarded, IsInOrder}
use Rattle.o2_regions.specs.declared.held.Held.{Held}
use Rattle.o2_regions.specs.Maps.{Maps, held_at, is_of}
use Rattle.o2_segbus.proofs.Ages.{ages_removed}
use Rattle.o2_service.proofs.Amounts.{slot_some}
use Rattle.o2_store.specs.Shelf.{Removes, SameTables}
use Rattle.o2_changes.specs.Holding.{IsUnheld}
use Rattle.o2_changes.specs.Segments.{IsNewest}
use Rattle.o2_changes.proofs.DropsStand.{removed_clean, removed_pictures}
use Rattle.o2_changes.proofs.Freeing.{keys_apart}
use Rattle.o2_changes.proofs.Keys.{has_is, key_has, live_key, other_key, removed_other, removed_own, same_key}
use Rattle.o2_changes.proofs.Named.{named_by}

module _ (s t : Shelf) (id : SegId) (e : Entry) (shelf : IsShelf s) (a : Adds s t id e) (age : e.age ≡ s.made) where
  slot_own : slot_at t.entries id.key ≡ Some e
  slot_own = ap (λ (x : Shelf). slot_at x.entries id.key) a.shelf ∙ slot-set_same s.entries id.key (Some e) a.within

  slot_other : (k : ℕ) → k ≢ id.key → slot_at t.entries k ≡ slot_at s.entries k
  slot_other k n = ap (λ (x : Shelf). slot_at x.entries k) a.shelf ∙ slot-set_other s.entries id.key k (Some e) n

  place_same : (k : ℕ) → place_of t k ≡ place_of s k
  place_same k = ap (λ (x : Shelf). place_of x k) a.shelf

  -- no segment was made so late
  young : (k : ℕ) → has_age (slot_at s.entries k) s.made ≡ false
  young k = go (has_age (slot_at s.entries k) s.made) refl
    where
      go : (b : Bool) → has_age (slot_at s.entries k) s.made ≡ b → b ≡ false
      go false f = refl
      go true f =
          let h = has_is (slot_at s.entries k) s.made f in
          elim (cases_lt k (length s.entries)) [
            | inl l ↦ absurd (let y = (shelf.each k l).young h.0 in let z = h.1 in omega (arith, y, z))
            | inr l ↦ absurd (let z : false ≡ true = sym (ap is_some (slot-past s.entries k l)) ∙ h.0 in cc)
          ]

  made_aged : AreAged s → AreAged t
  made_aged aged = ages_added s t id e shelf a age aged

  key_own : AreAged s → key_of t s.made ≡ Some id.key
  key_own aged =
      let w : (entry t id.key).age ≡ s.made = ap (λ (o : Option Entry). (entry_or o).age) slot_own ∙ age in
      subst (λ (n : ℕ). key_of t n ≡ Some id.key) w (aged_key t id.key (made_aged aged) (ap is_some slot_own))

  key_other : (q : ℕ) → q ≢ s.made → key_of t q ≡ key_of s q
  key_other q n = same_key s t q (ap (λ (x : Shelf). length x.entries) a.shelf ∙ length-set s.entries id.key (Some e)) (λ k. elim (cases_eq k id.key) [
    | inr m ↦ ap (λ (o : Option Entry). has_age o q) (slot_other k m)
    | inl same ↦ ap (λ (j : ℕ). has_age (slot_at t.entries j) q) same ∙ ap (λ (o : Option Entry). has_age o q) slot_own ∙ ne_eqb e.age q (λ z. n (sym z ∙ age))
        ∙ sym (ap (λ (j : ℕ). has_age (slot_at s.entries j) q) same ∙ ap (λ (o : Option Entry). has_age o q) a.vacant)
  ])

  -- a name's number isn't the new one
  not_new : (q k : ℕ) → key_of s q ≡ Some k → k ≢ id.key
  not_new q k is same =
      let f : false ≡ true = sym (ap (λ (o : Option Entry). has_age o q) a.vacant) ∙ ap (λ (j : ℕ). has_age (slot_at s.entries j) q) (sym same) ∙ key_has s q k is in
      cc

  entry_other : (k : ℕ) → k ≢ id.key → entry t k ≡ entry s k
  entry_other k n = ap entry_or (slot_other k n)

  out_other : (pic : Pictures) (block : ℕ → List ℕ) (k j : ℕ) → k ≢ id.key → out_byte t pic block k j ≡ out_byte s pic block k j
  out_other pic block k j n =
      ap (λ (x : Entry). cond (nat_lt j x.kept) (source_byte x.image pic t.swap block k j) 0) (entry_other k n)
      ∙ ap (λ (m : Blocks). cond (nat_lt j (entry s k).kept) (source_byte (entry s k).image pic m block k j) 0) (ap (λ (x : Shelf). x.swap) a.shelf)

  pub made_clean : (pic : Pictures) → AreClean s pic → AreClean t pic
  made_clean pic was = record { bytes = λ k at len j clean place low block. go k at len j clean place low block (cases_eq k id.key) }
    where
      go : (k at len j : ℕ) → (entry t k).attr.clean ≡ true → place_of t k ≡ Some (at, len) → j < (entry t k).size → (block : ℕ → List ℕ) → (k ≡ id.key) ⊎ (k ≢ id.key)
          → get_or t.memory (at + j) 0 ≡ out_byte t pic block k j
      go k at len j clean place low block (inl same) =
          absurd (let z : ◌≡◌ {A = Option (ℕ × ℕ)} None (Some (at, len)) = sym (ap (place_of t) same ∙ place_same id.key ∙ (shelf.each id.key a.within).dead a.vacant) ∙ place in cc)
      go k at len j clean place low block (inr n) =
          let f = entry_other k n in
          ap (λ (x : Shelf). get_or x.memory (at + j) 0) a.shelf
          ∙ was.bytes k at len j (ap (λ (x : Entry). x.attr.clean) (sym f) ∙ clean) (sym (place_same k) ∙ place) (subst (λ (x : Entry). j < x.size) f low) block
          ∙ sym (out_other pic block k j n)

  pub made_pictures : (has : ℕ → ℕ → Type 0) → e.image ≡ None → HasAll has s → HasAll has t
  made_pictures has none was k x y f = elim (cases_eq k id.key) [
    | inr n ↦ was k x y (ap (λ (z : Entry). z.image) (sym (entry_other k n)) ∙ f)
    | inl same ↦ absurd (let z : ◌≡◌ {A = Option (ℕ × ℕ)} None (Some (x, y)) = sym (ap (λ (j : ℕ). (entry t j).image) same ∙ ap (λ (o : Option Entry). (entry_or o).image) slot_own ∙ none) ∙ f in cc)
  ]

-- a machine whose world has the same names under all numbers
pub same_names : (p : Parts) (w : World) (names : Map Segment) → ((q : ℕ) → get names q ≡ get w.names q) → Matches p w → Matches p (record w { names = names })
same_names p w names same m = record {
  ready = m.ready;
  segments = λ q. subst (λ (g : Option Segment). IsNamed p (key_of p.shelf q) g) (sym (same q)) (m.segments q);
  made = m.made;
  processes = m.processes;
  held = m.held;
  taken = m.taken;
}

module _ (p : Parts) (w : World) (t : Shelf) (id : SegId) (e : Entry) (sg : Segment) (shelf : IsShelf p.shelf) (a : Adds p.shelf t id e) (age : e.age ≡ p.shelf.made) (stands : Matches p w)
    (others : (block : ℕ → List ℕ) (k j : ℕ) → k ≢ id.key → byte_at t (picture p.images) block k j ≡ byte_at p.shelf (picture p.images) block k j) where
  named_other : (q : ℕ) (o : Option ℕ) (g : Option Segment) → key_of p.shelf q ≡ o → IsNamed p o g → IsNamed (record p { shelf = t }) o g
  named_other q None None f is = is
  named_other q (Some k) None f is = absurd is
  named_other q None (Some s) f is = absurd is
  named_other q (Some k) (Some s) f is =
      let n = not_new p.shelf t id e shelf a age q k f in
      let same : entry t k ≡ entry p.shelf k = entry_other p.shelf t id e shelf a age k n in
      record {
        size = is.size ∙ ap (λ (x : Entry). x.size) (sym same);
        bytes = λ j low. is.bytes j (subst (λ (x : Entry). j < x.size) same low) ∙ sym (others p.block k j n);
        clean = is.clean ∙ ap (λ (x : Entry). x.attr.clean) (sym same);
        flags = is.flags ∙ ap (λ (x : Entry). x.attr.flags) (sym same);
        lock = is.lock ∙ ap (λ (x : Entry). x.attr.lock) (sym same);
        shared = is.shared ∙ ap (λ (x : Entry). x.attr.shared) (sym same);
        discarded = is.discarded ∙ ap (λ (x : Entry). x.attr.gone) (sym same);
      }

  segments_now : IsSegment (record p { shelf = t }) id.key sg → (q : ℕ) → IsNamed (record p { shelf = t }) (key_of t q) (get (put w.next_name (Some sg) w.names) q)
  segments_now here q = elim (cases_eq w.next_name q) [
    | inl f ↦
        (let k : key_of t q ≡ Some id.key = ap (key_of t) (sym f ∙ stands.made) ∙ key_own p.shelf t id e shelf a age stands.ready.aged in
        let g : get (put w.next_name (Some sg) w.names) q ≡ Some sg = get-put w.next_name q (Some sg) w.names ∙ cond-true (eqb w.next_name q) (Some sg) (get w.names q) (eq-eqb w.next_name q f) in
        subst (λ (o : Option ℕ). IsNamed (record p { shelf = t }) o (get (put w.next_name (Some sg) w.names) q)) (sym k) (subst (λ (x : Option Segment). IsNamed (record p { shelf = t }) (Some id.key) x) (sym g) here))
    | inr n ↦
        (let k : key_of t q ≡ key_of p.shelf q = key_other p.shelf t id e shelf a age q (λ z. n (stands.made ∙ sym z)) in
        let g : get (put w.next_name (Some sg) w.names) q ≡ get w.names q = get-put w.next_name q (Some sg) w.names ∙ cond-false (eqb w.next_name q) (Some sg) (get w.names q) (ne_eqb w.next_name q n) in
        subst (λ (o : Option ℕ). IsNamed (record p { shelf = t }) o (get (put w.next_name (Some sg) w.names) q)) (sym k)
        (subst (λ (x : Option Segment). IsNamed (record p { shelf = t }) (key_of p.shelf q) x) (sym g) (named_other q (key_of p.shelf q) (get w.names q) refl (stands.segments q))))
  ]

  pub makes_match : e.image ≡ None → IsInOrder t p.maps → IsSegment (record p { shelf = t }) id.key sg → Matches (record p { shelf = t }) (with_change w (Makes sg))
  makes_match none order here = record {
    ready = record {
      aged = made_aged p.shelf t id e shelf a age stands.ready.aged;
      named = named_by_age t p.maps (made_aged p.shelf t id e shelf a age stands.ready.aged) order.held.live;
      held = order.held;
      settled = order.settled;
      guarded = λ q j h f writable.
          ap (λ (x : Entry). x.attr.clean) (entry_other p.shelf t id e shelf a age h.id.key (not_new p.shelf t id e shelf a age h.id.age h.id.key (stands.ready.named q j h f)))
          ∙ stands.ready.guarded q j h f writable;
      clean = made_clean p.shelf t id e shelf a age (picture p.images) stands.ready.clean;
      pictures = made_pictures p.shelf t id e shelf a age (HasPicture p.images) none stands.ready.pictures;
      device = subst (λ (m : Blocks). all_of m ≤ p.device) (sym (ap (λ (x : Shelf). x.swap) a.shelf)) stands.ready.device;
    };
    segments = segments_now here;
    made = ap (λ (n : ℕ). n + 1) stands.made ∙ sym (ap (λ (x : Shelf). x.made) a.shelf);
    processes = stands.processes;
    held = stands.held;
    taken = stands.taken;
  }

-- A segment that nobody holds goes again.

key_made : (t : Shelf) (n q : ℕ) → key_of (record t { made = n }) q ≡ key_of t q
unfolding key_of
key_made t n q = refl

-- what was held before a segment was made isn't it
pub new_unheld : (s t : Shelf) (m : Maps) (id : SegId) (e : Entry) → Adds s t id e → IsInOrder s m → IsUnheld m id
new_unheld s t m id e a o pid i = go (held_at m pid i) refl
  where
    go : (x : Option Held) → held_at m pid i ≡ x → is_of id x ≡ false
    go None f = refl
    go (Some h) f = pick (is_of id (Some h)) refl
      where
        pick : (b : Bool) → is_of id (Some h) ≡ b → b ≡ false
        pick false g = refl
        pick true g =
            let k : h.id.key ≡ id.key = eqb-true h.id.key id.key (and_parts (eqb h.id.key id.key) (eqb h.id.age id.age) g).0 in
            let l = slot_some h.id.age (slot_at s.entries h.id.key) (o.held.live pid i h f) in
            let z : false ≡ true = sym (ap is_some (ap (slot_at s.entries) k ∙ a.vacant)) ∙ l in
            absurd (cc)

module _ (p : Parts) (w : World) (sg : Segment) (t : Shelf) (id : SegId) (shelf : IsShelf p.shelf) (live : IsSome (entry_of p.shelf id)) (r : Removes p.shelf t id.key) (none : IsUnheld p.maps id) (age : id.age ≡ w.next_name) (absent : get w.names w.next_name ≡ None)
    (stands : Matches p (with_change w (Makes sg))) where
  segments_then : (q : ℕ) → IsNamed (record p { shelf = record t { made = w.next_name } }) (key_of (record t { made = w.next_name }) q) (get w.names q)
  segments_then q = subst (λ (o : Option ℕ). IsNamed (record p { shelf = record t { made = w.next_name } }) o (get w.names q)) (sym (key_made t w.next_name q)) (elim (cases_eq q w.next_name) [
    | inl f ↦
        (let k : key_of t q ≡ None = ap (key_of t) (f ∙ sym age) ∙ removed_own p.shelf t id stands.ready.aged live r in
        subst (λ (o : Option ℕ). IsNamed (record p { shelf = record t { made = w.next_name } }) o (get w.names q)) (sym k)
        (subst (λ (g : Option Segment). IsNamed (record p { shelf = record t { made = w.next_name } }) None g) (sym (ap (get w.names) f ∙ absent)) tt))
    | inr n ↦
        (let other : q ≢ id.age = λ z. n (z ∙ age) in
        let g : get (put w.next_name (Some sg) w.names) q ≡ get w.names q = get-put w.next_name q (Some sg) w.names ∙ cond-false (eqb w.next_name q) (Some sg) (get w.names q) (ne_eqb w.next_name q (λ z. n (sym z))) in
        named_by p (record t { made = w.next_name }) p.maps (key_of p.shelf q) (key_of t q) (get w.names q) (removed_other p.shelf t id q live r other)
        (λ c f. ap entry_or (r.entries c (other_key p.shelf id q c live other f)))
        (λ c f j. r.bytes (picture p.images) p.block c j (other_key p.shelf id q c live other f))
        (subst (λ (x : Option Segment). IsNamed p (key_of p.shelf q) x) g (stands.segments q)))
  ])

  pub unmade_match : IsInOrder t p.maps → all_of t.swap ≡ all_of p.shelf.swap → Matches (record p { shelf = record t { made = w.next_name } }) w
  unmade_match order map = record {
    ready = record {
      aged = ages_removed p.shelf t id.key r stands.ready.aged;
      named = named_by_age (record t { made = w.next_name }) p.maps (ages_removed p.shelf t id.key r stands.ready.aged) order.held.live;
      held = record { live = order.held.live; inside = order.held.inside };
      settled = order.settled;
      guarded = λ q j h e writable.
          ap (λ (x : Entry). x.attr.clean) (ap entry_or (r.entries h.id.key (keys_apart p.shelf id h live (stands.ready.held.live q j h e) (sym (ap (is_of id) e) ∙ none q j)))) ∙ stands.ready.guarded q j h e writable;
      clean = (let a = removed_clean p.shelf t id.key (picture p.images) shelf r stands.ready.clean in record { bytes = a.bytes });
      pictures = removed_pictures p.shelf t id.key (HasPicture p.images) r stands.ready.pictures;
      device = (let d = stands.ready.device in omega (arith, map, d));
    };
    segments = segments_then;
    made = refl;
    processes = stands.processes;
    held = stands.held;
    taken = stands.taken;
  }

-- The segment that was made last.

slot_age : (s t : Shelf) (k : ℕ) → slot_at t.entries k ≡ slot_at s.entries k → (entry t k).age ≡ (entry s k).age
slot_age s t k same = ap (λ (o : Option Entry). (entry_or o).age) same

young_at : (s : Shelf) (k : ℕ) → IsShelf s → IsSome (slot_at s.entries k) → (entry s k).age < s.made
young_at s k shelf some = (shelf.each k (within_at s.entries k some)).young some

pub new_newest : (s t : Shelf) (id : SegId) (e : Entry) → IsShelf s → Adds s t id e → IsNewest t id
new_newest s t id e shelf a = record {
  last = (let m : t.made ≡ s.made + 1 = ap (λ (x : Shelf). x.made) a.shelf in omega (arith, m, a.age));
  older = λ k n some.
      (let same : slot_at t.entries k ≡ slot_at s.entries k = ap (λ (x : Shelf). slot_at x.entries k) a.shelf ∙ slot-set_other s.entries id.key k (Some e) n in
      let y = young_at s k shelf (subst (λ (o : Option Entry). IsSome o) same some) in
      let g = slot_age s t k same in
      omega (arith, y, g, a.age));
}

pub newest_still : (s t : Shelf) (id : SegId) → SameTables s t → IsNewest s id → IsNewest t id
newest_still s t id same n = record {
  last = same.made ∙ n.last;
  older = λ k m some.
      (let y = n.older k m (sym (same.same k).live ∙ some) in
      let g = (same.same k).age in
      omega (arith, y, g));
}

-- without it all segments are older than it was
pub gone_newest : (s t : Shelf) (id : SegId) → IsSome (entry_of s id) → IsNewest s id → Removes s t id.key → (k : ℕ) → IsSome (slot_at t.entries k) → (entry t k).age + 1 < t.made
gone_newest s t id live n r k some =
    let m : t.made ≡ s.made = ap (λ (x : Shelf). x.made) r.shelf in
    elim (cases_eq k id.key) [
      | inl same ↦ absurd (
          let within = within_at s.entries id.key (slot_some id.age (slot_at s.entries id.key) live) in
          let none : slot_at t.entries k ≡ None = ap (slot_at t.entries) same ∙ ap (λ (x : Shelf). slot_at x.entries id.key) r.shelf ∙ slot-set_same s.entries id.key None within in
          let z : false ≡ true = sym (ap is_some none) ∙ some in
          cc)
      | inr m' ↦
          (let same = r.entries k m' in
          let y = n.older k m' (subst (λ (o : Option Entry). IsSome o) same some) in
          let g = slot_age s t k same in
          let l = n.last in
          omega (arith, y, g, l, m))
    ]

pub unmade_age : (s r t : Shelf) (id : SegId) → IsNewest s id → Removes s r id.key → t ≡ record r { made = r.made - 1 } → t.made ≡ id.age
unmade_age s r t id n gone e =
    let m : r.made ≡ s.made = ap (λ (x : Shelf). x.made) gone.shelf in
    let f : t.made ≡ r.made - 1 = ap (λ (x : Shelf). x.made) e in
    let l = n.last in
    omega (arith, m, f, l)

-- how many were made is nothing that descriptors or images say
pub made_clean_any : (t : Shelf) (n : ℕ) (pic : Pictures) → AreClean t pic → AreClean (record t { made = n }) pic
made_clean_any t n pic a = record { bytes = a.bytes }

pub unmade_guards : (t : Shelf) (m : Maps) (n : ℕ) → IsGuarded t m → IsGuarded (record t { made = n }) m
unmade_guards t m n g = record { aged = g.aged; guarded = g.guarded }

pub unmade_order : (t : Shelf) (m : Maps) (n : ℕ) → IsInOrder t m → IsInOrder (record t { made = n }) m
unmade_order t m n o = record { held = record { live = o.held.live; inside = o.held.inside }; settled = o.settled; tables = o.tables }

-- What a new segment is in a world.

pub new_plain : (p : Parts) (w : World) (sg : Segment) (id : SegId) → Matches p (with_change w (Makes sg)) → IsSome (entry_of p.shelf id) → id.age ≡ w.next_name → sg.clean ≡ false → (entry p.shelf id.key).attr.clean ≡ false
new_plain p w sg id q live age plain =
    let k : key_of p.shelf id.age ≡ Some id.key = live_key p.shelf id q.ready.aged live in
    let g : get (put w.next_name (Some sg) w.names) id.age ≡ Some sg = get-put w.next_name id.age (Some sg) w.names ∙ cond-true (eqb w.next_name id.age) (Some sg) (get w.names id.age) (eq-eqb w.next_name id.age (sym age)) in
    let is : IsNamed p (Some id.key) (Some sg) = subst (λ (o : Option ℕ). IsNamed p o (Some sg)) k (subst (λ (x : Option Segment). IsNamed p (key_of p.shelf id.age) x) g (q.segments id.age)) in
    sym is.clean ∙ plain

pub new_locked : (p : Parts) (w : World) (sg : Segment) → Matches p (with_change (with_change w (Makes sg)) (Locks w.next_name 1)) → Matches p (with_change w (Makes (record sg { lock = 1 })))
new_locked p w sg m = same_names p (with_change (with_change w (Makes sg)) (Locks w.next_name 1)) (put w.next_name (Some (record sg { lock = 1 })) w.names) all m
  where
    all : (q : ℕ) → get (put w.next_name (Some (record sg { lock = 1 })) w.names) q ≡ get (at_key w.next_name (λ (s : Segment). record s { lock = 1 }) (put w.next_name (Some sg) w.names)) q
    all q =
        let n = w.next_name in
        let own : get (put n (Some sg) w.names) n ≡ Some sg = get-put n n (Some sg) w.names ∙ cond-true (eqb n n) (Some sg) (get w.names n) (eq-eqb n n refl) in
        get-put n q (Some (record sg { lock = 1 })) w.names
        ∙ collapse (eqb n q)
        ∙ sym (get-at_key n q (λ (s : Segment). record s { lock = 1 }) (put n (Some sg) w.names)
        ∙ ap (λ (x : Option Segment). cond (eqb n q) (option_map (λ (s : Segment). record s { lock = 1 }) x) (get (put n (Some sg) w.names) q)) own
        ∙ ap (cond (eqb n q) (Some (record sg { lock = 1 }))) (get-put n q (Some sg) w.names))
      where
        collapse : (b : Bool) → cond b (Some (record sg { lock = 1 })) (get w.names q) ≡ cond b (Some (record sg { lock = 1 })) (cond b (Some sg) (get w.names q))
        collapse true = refl
        collapse false = refl
