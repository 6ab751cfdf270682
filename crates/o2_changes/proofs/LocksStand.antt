-- What a machine matches behind a lock that comes or goes.
use Rattle.std.proofs.Common.{◌≡◌, ◌≢◌, ℕ, ◌+◌, ◌<◌, ◌≤◌, inl, inr, List, Option, Some, None, is_some, IsSome, cond, eqb, nat_lt, option_map, get_or, refl, sym, ap, ◌∙◌, subst}
use Rattle.std.proofs.lemmas.Bool.{cases_eq, cond-true, cond-false, eq-eqb, ne_eqb}
use Rattle.o2_entries.specs.declared.Entry.{Entry}
use Rattle.o2_entries.specs.Tables.{slot_at}
use Rattle.o2_place.specs.declared.seg_id.SegId.{SegId}
use Rattle.o2_segbus.specs.Guards.{AreAged}
use Rattle.o2_segbus.specs.Seen.{key_of}
use Rattle.o2_segbus.proofs.Ages.{named_by_age}
use Rattle.o2_service.proofs.Amounts.{slot_some}
use Rattle.o2_store.specs.Needs.{has_age}
use Rattle.o2_store.specs.Pictures.{picture, HasPicture}
use Rattle.o2_store.specs.Shelf.{Shelf, AreClean, HasAll, Pictures, entry, entry_of, entry_or, out_byte, place_of, source_byte}
use Rattle.o2_swapmap.specs.Piles.{Blocks, all_of}
use Rattle.o2_world.specs.Map.{at_key, get}
use Rattle.o2_world.specs.World.{Segment, World}
use Rattle.o2_world.specs.Changes.{Locks, with_change}
use Rattle.o2_world.proofs.MapLemmas.{get-at_key}
use Rattle.o2_stands.specs.Parts.{Parts}
use Rattle.o2_stands.specs.Stands.{IsNamed, Matches}
use Rattle.o2_changes.specs.Order.{IsInOrder}
use Rattle.o2_changes.specs.Segments.{SetsLock}
use Rattle.o2_changes.proofs.Keys.{live_key, other_key, same_key}

module _ (s t : Shelf) (id : SegId) (lock : ℕ) (live : IsSome (entry_of s id)) (l : SetsLock s t id lock) where
  -- an entry but for its lock count
  pub locked_entry : (k : ℕ) → entry t k ≡ record (entry s k) { attr = record (entry s k).attr { lock = (entry t k).attr.lock } }
  locked_entry k = elim (cases_eq k id.key) [
    | inr n ↦ (let e : entry t k ≡ entry s k = ap entry_or (l.others k n) in e ∙ ap (λ (x : ℕ). record (entry s k) { attr = record (entry s k).attr { lock = x } }) (sym (ap (λ (y : Entry). y.attr.lock) e)))
    | inl same ↦ subst (λ (j : ℕ). entry t j ≡ record (entry s j) { attr = record (entry s j).attr { lock = (entry t j).attr.lock } }) (sym same)
        (let e : entry t id.key ≡ record (entry s id.key) { attr = record (entry s id.key).attr { lock = lock } } = ap entry_or l.here in
        e ∙ ap (λ (x : ℕ). record (entry s id.key) { attr = record (entry s id.key).attr { lock = x } }) (sym (ap (λ (y : Entry). y.attr.lock) e)))
  ]

  locked_live : (k : ℕ) → is_some (slot_at t.entries k) ≡ is_some (slot_at s.entries k)
  locked_live k = elim (cases_eq k id.key) [
    | inr n ↦ ap is_some (l.others k n)
    | inl same ↦ subst (λ (j : ℕ). is_some (slot_at t.entries j) ≡ is_some (slot_at s.entries j)) (sym same) (ap is_some l.here ∙ sym (slot_some id.age (slot_at s.entries id.key) live))
  ]

  locked_age : (k : ℕ) → (entry t k).age ≡ (entry s k).age
  locked_age k = ap (λ (e : Entry). e.age) (locked_entry k)

  pub locked_aged : AreAged s → AreAged t
  locked_aged a j k x y e = a j k (sym (locked_live j) ∙ x) (sym (locked_live k) ∙ y) (sym (locked_age j) ∙ e ∙ locked_age k)

  has_same : (k q : ℕ) → has_age (slot_at t.entries k) q ≡ has_age (slot_at s.entries k) q
  has_same k q = go (slot_at t.entries k) (slot_at s.entries k) (locked_live k) (locked_age k)
    where
      go : (o u : Option Entry) → is_some o ≡ is_some u → (entry_or o).age ≡ (entry_or u).age → has_age o q ≡ has_age u q
      go None None a b = refl
      go None (Some y) a b = absurd (cc)
      go (Some x) None a b = absurd (cc)
      go (Some x) (Some y) a b = ap (λ (n : ℕ). eqb n q) b

  pub locked_key : (q : ℕ) → key_of t q ≡ key_of s q
  locked_key q = same_key s t q l.count (λ k. has_same k q)

  swap_same : t.swap ≡ s.swap
  swap_same = ap (λ (x : Shelf). x.swap) l.shelf

  out_same : (pic : Pictures) (block : ℕ → List ℕ) (k j : ℕ) → out_byte t pic block k j ≡ out_byte s pic block k j
  out_same pic block k j =
      ap (λ (e : Entry). cond (nat_lt j e.kept) (source_byte e.image pic t.swap block k j) 0) (locked_entry k)
      ∙ ap (λ (m : Blocks). cond (nat_lt j (entry s k).kept) (source_byte (entry s k).image pic m block k j) 0) swap_same

  pub locked_clean : (pic : Pictures) → AreClean s pic → AreClean t pic
  locked_clean pic a = record {
    bytes = λ k at len j clean place low block.
        ap (λ (x : Shelf). get_or x.memory (at + j) 0) l.shelf
        ∙ a.bytes k at len j (sym (ap (λ (e : Entry). e.attr.clean) (locked_entry k)) ∙ clean) (sym (ap (λ (x : Shelf). place_of x k) l.shelf) ∙ place)
        (subst (λ (n : ℕ). j < n) (ap (λ (e : Entry). e.size) (locked_entry k)) low) block
        ∙ sym (out_same pic block k j);
  }

  pub locked_pictures : (has : ℕ → ℕ → Type 0) → HasAll has s → HasAll has t
  locked_pictures has a k x y e = a k x y (sym (ap (λ (e : Entry). e.image) (locked_entry k)) ∙ e)

module _ (p : Parts) (w : World) (t : Shelf) (id : SegId) (lock : ℕ) (live : IsSome (entry_of p.shelf id)) (l : SetsLock p.shelf t id lock) (stands : Matches p w) where
  with_lock : Segment → Segment
  with_lock s = record s { lock = lock }

  after : Parts
  after = record p { shelf = t }

  -- another name
  named_other : (q : ℕ) → q ≢ id.age → (o : Option ℕ) (g : Option Segment) → key_of p.shelf q ≡ o → IsNamed p o g → IsNamed (record p { shelf = t }) o g
  named_other q n None None e is = is
  named_other q n (Some k) None e is = absurd is
  named_other q n None (Some s) e is = absurd is
  named_other q n (Some k) (Some s) e is =
      let same : entry t k ≡ entry p.shelf k = ap entry_or (l.others k (other_key p.shelf id q k live n e)) in
      record {
        size = is.size ∙ ap (λ (x : Entry). x.size) (sym same);
        bytes = λ j low. is.bytes j (subst (λ (x : Entry). j < x.size) same low) ∙ sym (l.bytes (picture p.images) p.block k j);
        clean = is.clean ∙ ap (λ (x : Entry). x.attr.clean) (sym same);
        flags = is.flags ∙ ap (λ (x : Entry). x.attr.flags) (sym same);
        lock = is.lock ∙ ap (λ (x : Entry). x.attr.lock) (sym same);
        shared = is.shared ∙ ap (λ (x : Entry). x.attr.shared) (sym same);
        discarded = is.discarded ∙ ap (λ (x : Entry). x.attr.gone) (sym same);
      }

  named_own : (g : Option Segment) → IsNamed p (Some id.key) g → IsNamed (record p { shelf = t }) (Some id.key) (option_map (λ (s : Segment). record s { lock = lock }) g)
  named_own None is = absurd is
  named_own (Some s) is =
      let same : entry t id.key ≡ record (entry p.shelf id.key) { attr = record (entry p.shelf id.key).attr { lock = lock } } = ap entry_or l.here in
      record {
        size = is.size ∙ ap (λ (x : Entry). x.size) (sym same);
        bytes = λ j low. is.bytes j (subst (λ (x : Entry). j < x.size) same low) ∙ sym (l.bytes (picture p.images) p.block id.key j);
        clean = is.clean ∙ ap (λ (x : Entry). x.attr.clean) (sym same);
        flags = is.flags ∙ ap (λ (x : Entry). x.attr.flags) (sym same);
        lock = ap (λ (x : Entry). x.attr.lock) (sym same);
        shared = is.shared ∙ ap (λ (x : Entry). x.attr.shared) (sym same);
        discarded = is.discarded ∙ ap (λ (x : Entry). x.attr.gone) (sym same);
      }

  segments_now : (q : ℕ) → IsNamed (record p { shelf = t }) (key_of t q) (get (at_key id.age (λ (s : Segment). record s { lock = lock }) w.names) q)
  segments_now q = subst (λ (g : Option Segment). IsNamed (record p { shelf = t }) (key_of t q) g) (sym (get-at_key id.age q (λ (s : Segment). record s { lock = lock }) w.names))
      (subst (λ (o : Option ℕ). IsNamed (record p { shelf = t }) o (cond (eqb id.age q) (option_map (λ (s : Segment). record s { lock = lock }) (get w.names id.age)) (get w.names q))) (sym (locked_key p.shelf t id lock live l q))
      (elim (cases_eq id.age q) [
        | inl e ↦
            (let k : key_of p.shelf q ≡ Some id.key = ap (key_of p.shelf) (sym e) ∙ live_key p.shelf id stands.ready.aged live in
            subst (λ (g : Option Segment). IsNamed (record p { shelf = t }) (key_of p.shelf q) g) (sym (cond-true (eqb id.age q) (option_map (λ (s : Segment). record s { lock = lock }) (get w.names id.age)) (get w.names q) (eq-eqb id.age q e)))
            (subst (λ (o : Option ℕ). IsNamed (record p { shelf = t }) o (option_map (λ (s : Segment). record s { lock = lock }) (get w.names id.age))) (sym k)
            (named_own (get w.names id.age) (subst (λ (o : Option ℕ). IsNamed p o (get w.names id.age)) (live_key p.shelf id stands.ready.aged live) (stands.segments id.age)))))
        | inr n ↦
            subst (λ (g : Option Segment). IsNamed (record p { shelf = t }) (key_of p.shelf q) g) (sym (cond-false (eqb id.age q) (option_map (λ (s : Segment). record s { lock = lock }) (get w.names id.age)) (get w.names q) (ne_eqb id.age q n)))
            (named_other q (λ e. n (sym e)) (key_of p.shelf q) (get w.names q) refl (stands.segments q))
      ]))

  pub locks_match : IsInOrder t p.maps → Matches (record p { shelf = t }) (with_change w (Locks id.age lock))
  locks_match order = record {
    ready = record {
      aged = locked_aged p.shelf t id lock live l stands.ready.aged;
      named = named_by_age t p.maps (locked_aged p.shelf t id lock live l stands.ready.aged) order.held.live;
      held = order.held;
      settled = order.settled;
      guarded = λ q j h e writable. ap (λ (x : Entry). x.attr.clean) (locked_entry p.shelf t id lock live l h.id.key) ∙ stands.ready.guarded q j h e writable;
      clean = locked_clean p.shelf t id lock live l (picture p.images) stands.ready.clean;
      pictures = locked_pictures p.shelf t id lock live l (HasPicture p.images) stands.ready.pictures;
      device = (let e = swap_same p.shelf t id lock live l in subst (λ (m : Blocks). all_of m ≤ p.device) (sym e) stands.ready.device);
    };
    segments = segments_now;
    made = stands.made ∙ sym (ap (λ (x : Shelf). x.made) l.shelf);
    processes = stands.processes;
    held = stands.held;
    taken = stands.taken;
  }
