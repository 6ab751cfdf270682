-- What a process lets go of, index by index, comes to all that it held.
use Rattle.std.proofs.Common.{◌≡◌, ◌≢◌, ℕ, ◌+◌, ◌<◌, ◌≤◌, inl, inr, Bool, true, false, cond, ◌&&◌, ◌||◌, length, set, Option, Some, None, is_some, IsSome, refl, sym, ap, ◌∙◌, subst, arith}
use Rattle.std.specs.Prelude.{nat_lt, ◌==◌}
use Rattle.std.proofs.lemmas.Bool.{cases_eq, cases_lt, false≢true, eq-eqb}
use Rattle.std.proofs.lemmas.List.{get_or_past, get_or-set_same, length-set}
use Rattle.o2_desc.specs.Bytes.{empty}
use Rattle.o2_entries.specs.declared.Entry.{Entry}
use Rattle.o2_entries.specs.Tables.{slot_at}
use Rattle.o2_place.specs.declared.seg_id.SegId.{SegId}
use Rattle.o2_regions.specs.declared.held.Held.{Held}
use Rattle.o2_regions.specs.Maps.{Maps, held_at, table_of}
use Rattle.o2_segbus.specs.Settled.{descriptor_at}
use Rattle.o2_service.specs.Told.{IsHeldWell}
use Rattle.o2_store.specs.Shelf.{Removes, Shelf, aged, entry_of, entry_or, numbered}
use Rattle.o2_swapmap.specs.Piles.{all_of}
use Rattle.o2_ends.specs.Drops.{Empties}
use Rattle.o2_ends.specs.LetsGo.{KeepsSegment, LetsGo, Sheds, some_has}
use Rattle.o2_ends.proofs.Holders.{IsHolder, has_there, holder_of, some_is}

none_some : {X : Type 0} (x : X) → None ≡ Some x → ⊥
none_some x e = cc

-- What is held behind was held before.
pub held_before : (m n : Maps) (pid : ℕ) (gone : ℕ → Bool) → LetsGo m n pid gone → (q i : ℕ) (h : Held) → held_at n q i ≡ Some h
    → (held_at m q i ≡ Some h) × (((q == pid) && gone i) ≡ false)
held_before m n pid gone w q i h e = go ((q == pid) && gone i) (sym (w.held q i) ∙ e)
  where
    go : (b : Bool) → cond b None (held_at m q i) ≡ Some h → (held_at m q i ≡ Some h) × (b ≡ false)
    go true x = absurd (none_some h x)
    go false x = (x, refl)

pub has_before : (m n : Maps) (pid : ℕ) (gone : ℕ → Bool) → LetsGo m n pid gone → (id : SegId) → some_has n id ≡ true → some_has m id ≡ true
has_before m n pid gone w id e =
    let x = holder_of n id e in
    subst (λ (y : SegId). some_has m y ≡ true) x.named (has_there m x.pid x.index x.hold (held_before m n pid gone w x.pid x.index x.hold x.there).0)

not_before : (m n : Maps) (pid : ℕ) (gone : ℕ → Bool) → LetsGo m n pid gone → (id : SegId) → some_has m id ≡ false → some_has n id ≡ false
not_before m n pid gone w id e = go (some_has n id) refl
  where
    go : (b : Bool) → some_has n id ≡ b → b ≡ false
    go false x = refl
    go true x = absurd (false≢true (sym e ∙ has_before m n pid gone w id x))

-- A live segment that is held is the one of its number.

aged_is : (o : Option Entry) (age : ℕ) → IsSome (aged age o) → IsSome o × ((entry_or o).age ≡ age)
aged_is None age h = absurd (false≢true h)
aged_is (Some e) age h = go (e.age == age) refl h
  where
    go : (b : Bool) → (e.age == age) ≡ b → is_some (cond b (Some e) None) ≡ true → IsSome (Some e) × (e.age ≡ age)
    go true q z = (refl, (let x : e.age ≡ age = grind arith in x))
    go false q z = absurd (false≢true z)

is_aged : (o : Option Entry) (age : ℕ) → IsSome o → (entry_or o).age ≡ age → IsSome (aged age o)
is_aged None age i e = absurd (false≢true i)
is_aged (Some x) age i e = rw (eq-eqb x.age age e) refl

pub live_id : (s : Shelf) (id : SegId) → IsSome (entry_of s id) → IsSome (slot_at s.entries id.key) × (numbered s id.key ≡ id)
live_id s id i =
    let x = aged_is (slot_at s.entries id.key) id.age i in
    (x.0, ap (λ (n : ℕ). record { key = id.key; age = n }) x.1)

pub id_live : (s : Shelf) (id : SegId) → IsSome (slot_at s.entries id.key) → numbered s id.key ≡ id → IsSome (entry_of s id)
id_live s id i e = is_aged (slot_at s.entries id.key) id.age i (ap (λ (x : SegId). x.age) e)

-- One index.

pub lets_one : (m mid n : Maps) (pid i : ℕ) → Empties m mid pid i → n ≡ record mid { reserved = n.reserved } → LetsGo m n pid (λ j. j == i)
lets_one m mid n pid i d is = record {
  processes = ap (λ (x : Maps). x.processes) is ∙ d.processes;
  held = λ q j. ap (λ (x : Maps). held_at x q j) is ∙ d.held q j;
  described = λ q j. ap (λ (x : Maps). descriptor_at x q j) is ∙ d.described q j;
  lengths = λ q. ap (λ (x : Maps). length (table_of x q)) is ∙ d.lengths q;
}

-- The store with that index let go.

keeps : (s : Shelf) (k : ℕ) → KeepsSegment s s k
keeps s k = record { entry = refl; place = refl; bytes = λ pic block j. refl }

module _ (s : Shelf) (m n : Maps) (pid i : ℕ) (h : Held) (at : held_at m pid i ≡ Some h) (w : LetsGo m n pid (λ j. j == i)) where
  -- what was held and isn't any more is what was held there
  only_it : (id : SegId) → some_has m id ≡ true → some_has n id ≡ false → id ≡ h.id
  only_it id sure lost =
      let x = holder_of m id sure in
      go x ((x.pid == pid) && (x.index == i)) refl (w.held x.pid x.index)
    where
      go : (x : IsHolder m id) (b : Bool) → ((x.pid == pid) && (x.index == i)) ≡ b → held_at n x.pid x.index ≡ cond b None (held_at m x.pid x.index) → id ≡ h.id
      go x false e f = absurd (false≢true (sym lost ∙ subst (λ (y : SegId). some_has n y ≡ true) x.named (has_there n x.pid x.index x.hold (f ∙ x.there))))
      go x true e f =
          (let p : x.pid ≡ pid = grind arith in
          let j : x.index ≡ i = grind arith in
          let same : Some x.hold ≡ Some h = sym x.there ∙ (ap (λ (a : ℕ). held_at m a x.index) p ∙ (ap (λ (b : ℕ). held_at m pid b) j ∙ at)) in
          sym x.named ∙ ap (λ (y : Held). y.id) (some_is x.hold h same))

  pub sheds_none : some_has n h.id ≡ true → Sheds s m s n
  sheds_none held = record {
    memory = refl;
    size = refl;
    count = refl;
    made = refl;
    map = refl;
    same = λ k x. keeps s k;
    left = λ k x y. x;
    other = λ k x y. x;
    gone = λ k sure lost. absurd (false≢true (sym lost ∙ subst (λ (y : SegId). some_has n y ≡ true) (sym (only_it (numbered s k) sure lost)) held));
  }

  module _ (t : Shelf) (live : IsSome (entry_of s h.id)) (r : Removes s t h.id.key) (all : all_of t.swap ≡ all_of s.swap) (size : t.places.size ≡ s.places.size) (nobody : some_has n h.id ≡ false) where
    removed : slot_at t.entries h.id.key ≡ None
    removed = ap (λ (z : Shelf). slot_at z.entries h.id.key) r.shelf ∙ elim (cases_lt h.id.key (length s.entries)) [
      | inl l ↦ get_or-set_same s.entries h.id.key None None l
      | inr past ↦ past_it past
    ]
      where
        past_it : length s.entries ≤ h.id.key → slot_at (set s.entries h.id.key None) h.id.key ≡ None
        past_it l = get_or_past (set s.entries h.id.key None) h.id.key None (omega (arith, l, length-set s.entries h.id.key None))

    others : (k : ℕ) → k ≢ h.id.key → KeepsSegment s t k
    others k apart = record { entry = r.entries k apart; place = r.places k apart; bytes = λ pic block j. r.bytes pic block k j apart }

    this : (k : ℕ) → k ≡ h.id.key → numbered s k ≡ h.id
    this k e = ap (numbered s) e ∙ (live_id s h.id live).1

    pub sheds_one : Sheds s m t n
    sheds_one = record {
      memory = ap (λ (z : Shelf). z.memory) r.shelf;
      size = size;
      count = ap (λ (z : Shelf). length z.entries) r.shelf ∙ length-set s.entries h.id.key None;
      made = ap (λ (z : Shelf). z.made) r.shelf;
      map = all;
      same = λ k x. elim (cases_eq k h.id.key) [
        | inl e ↦ absurd (false≢true (ap is_some (sym (ap (slot_at t.entries) e ∙ removed)) ∙ x))
        | inr apart ↦ others k apart
      ];
      left = λ k x y. elim (cases_eq k h.id.key) [
        | inl e ↦ absurd (false≢true (sym nobody ∙ subst (λ (z : SegId). some_has n z ≡ true) (this k e) y))
        | inr apart ↦ ap is_some (r.entries k apart) ∙ x
      ];
      other = λ k x y. elim (cases_eq k h.id.key) [
        | inl e ↦ absurd (false≢true (sym (subst (λ (z : SegId). some_has m z ≡ false) (this k e) y) ∙ has_there m pid i h at))
        | inr apart ↦ ap is_some (r.entries k apart) ∙ x
      ];
      gone = λ k sure lost. (let e : k ≡ h.id.key = ap (λ (y : SegId). y.key) (only_it (numbered s k) sure lost) in ap (slot_at t.entries) e ∙ removed);
    }

-- One index after the other.

-- where nothing is held a descriptor is empty
abbrev pub AreEmpty : Maps → Type 0
AreEmpty m = (q i : ℕ) → held_at m q i ≡ None → descriptor_at m q i ≡ empty

below_next : (i from : ℕ) → nat_lt i (from + 1) ≡ (nat_lt i from || (i == from))
below_next i from = grind arith

-- an index is let go behind others, where nothing is held between them
module _ (l m n : Maps) (pid from at : ℕ) (before : from ≤ at) (clear : (i : ℕ) → from ≤ i → i < at → held_at m pid i ≡ None) (bare : AreEmpty m)
    (v : LetsGo l m pid (λ i. nat_lt i from)) (w : LetsGo m n pid (λ i. i == at)) where
  -- the tests of both
  Both : Bool → ℕ → Type 0
  Both b i = (b ≡ true) × (nat_lt i from ≡ false) × (i < at)

  joined : {X : Type 0} (own a b c : Bool) (none old mid new : X) → mid ≡ cond (own && a) none old → new ≡ cond (own && b) none mid
      → (own ≡ true → c ≡ true → a ≡ false → b ≡ false → mid ≡ none) → (a ≡ true → c ≡ true) → (b ≡ true → c ≡ true)
      → new ≡ cond (own && c) none old
  joined false a b c none old mid new e f g h k = f ∙ e
  joined true true true true none old mid new e f g h k = f
  joined true true false true none old mid new e f g h k = f ∙ e
  joined true false true true none old mid new e f g h k = f
  joined true false false true none old mid new e f g h k = f ∙ g refl refl refl refl
  joined true false false false none old mid new e f g h k = f ∙ e
  joined true true b false none old mid new e f g h k = absurd (false≢true (h refl))
  joined true false true false none old mid new e f g h k = absurd (false≢true (k refl))

  between : (i : ℕ) → nat_lt i (at + 1) ≡ true → nat_lt i from ≡ false → (i == at) ≡ false → held_at m pid i ≡ None
  between i c a b = clear i (grind arith) (grind arith)

  low : (i : ℕ) → nat_lt i from ≡ true → nat_lt i (at + 1) ≡ true
  low i a = grind (arith, before)

  reached : (i : ℕ) → (i == at) ≡ true → nat_lt i (at + 1) ≡ true
  reached i b = grind arith

  own_held : (q i : ℕ) → (q == pid) ≡ true → held_at m pid i ≡ None → held_at m q i ≡ None
  own_held q i e none = (let x : q ≡ pid = grind arith in ap (λ (a : ℕ). held_at m a i) x ∙ none)

  pub lets_more : LetsGo l n pid (λ i. nat_lt i (at + 1))
  lets_more = record {
    processes = w.processes ∙ v.processes;
    held = λ q i. joined (q == pid) (nat_lt i from) (i == at) (nat_lt i (at + 1)) None (held_at l q i) (held_at m q i) (held_at n q i) (v.held q i) (w.held q i)
        (λ own c a b. own_held q i own (between i c a b)) (low i) (reached i);
    described = λ q i. joined (q == pid) (nat_lt i from) (i == at) (nat_lt i (at + 1)) empty (descriptor_at l q i) (descriptor_at m q i) (descriptor_at n q i) (v.described q i) (w.described q i)
        (λ own c a b. bare q i (own_held q i own (between i c a b))) (low i) (reached i);
    lengths = λ q. w.lengths q ∙ v.lengths q;
  }

-- nothing is held behind them
pub lets_all : (l m : Maps) (pid from : ℕ) → ((i : ℕ) → from ≤ i → held_at m pid i ≡ None) → AreEmpty m → LetsGo l m pid (λ i. nat_lt i from) → LetsGo l m pid (λ i. true)
lets_all l m pid from clear bare v = record {
  processes = v.processes;
  held = λ q i. go (q == pid) (nat_lt i from) None (held_at l q i) (held_at m q i) (v.held q i) (λ own high. held q i own high);
  described = λ q i. go (q == pid) (nat_lt i from) empty (descriptor_at l q i) (descriptor_at m q i) (v.described q i) (λ own high. bare q i (held q i own high));
  lengths = v.lengths;
}
  where
    behind : (i : ℕ) → nat_lt i from ≡ false → from ≤ i
    behind i high = grind arith

    held : (q i : ℕ) → (q == pid) ≡ true → nat_lt i from ≡ false → held_at m q i ≡ None
    held q i own high = (let x : q ≡ pid = grind arith in ap (λ (a : ℕ). held_at m a i) x ∙ clear i (behind i high))

    go : {X : Type 0} (own a : Bool) (none old new : X) → new ≡ cond (own && a) none old → (own ≡ true → a ≡ false → new ≡ none) → new ≡ cond (own && true) none old
    go false a none old new e f = e
    go true true none old new e f = e
    go true false none old new e f = f refl refl

-- what is reserved is nothing to it
pub lets_same : (l m n : Maps) (pid : ℕ) (gone : ℕ → Bool) → n ≡ record m { reserved = n.reserved } → LetsGo l m pid gone → LetsGo l n pid gone
lets_same l m n pid gone is v = record {
  processes = ap (λ (x : Maps). x.processes) is ∙ v.processes;
  held = λ q j. ap (λ (x : Maps). held_at x q j) is ∙ v.held q j;
  described = λ q j. ap (λ (x : Maps). descriptor_at x q j) is ∙ v.described q j;
  lengths = λ q. ap (λ (x : Maps). length (table_of x q)) is ∙ v.lengths q;
}

-- What is let go of the store in one step and then in another.

same_number : (s t : Shelf) (k : ℕ) → KeepsSegment s t k → numbered t k ≡ numbered s k
same_number s t k x = ap (λ (o : Option Entry). record { key = k; age = (entry_or o).age }) x.entry

none_of : (o : Option Entry) → (IsSome o → ⊥) → o ≡ None
none_of None f = refl
none_of (Some e) f = absurd (f refl)

pub sheds_more : (s t u : Shelf) (l m n : Maps) → ((id : SegId) → some_has l id ≡ false → some_has m id ≡ false) → ((id : SegId) → some_has n id ≡ true → some_has m id ≡ true)
    → Sheds s l t m → Sheds t m u n → Sheds s l u n
sheds_more s t u l m n down up v w = record {
  memory = w.memory ∙ v.memory;
  size = w.size ∙ v.size;
  count = w.count ∙ v.count;
  made = w.made ∙ v.made;
  map = w.map ∙ v.map;
  same = λ k x. (let b = w.same k x in let a = v.same k (ap is_some (sym b.entry) ∙ x) in record {
    entry = b.entry ∙ a.entry;
    place = b.place ∙ a.place;
    bytes = λ pic block j. b.bytes pic block j ∙ a.bytes pic block j;
  });
  left = λ k x y. (let z = v.left k x (up (numbered s k) y) in w.left k z (subst (λ (id : SegId). some_has n id ≡ true) (sym (same_number s t k (v.same k z))) y));
  other = λ k x y. (let z = v.other k x y in w.other k z (subst (λ (id : SegId). some_has m id ≡ false) (sym (same_number s t k (v.same k z))) (down (numbered s k) y)));
  gone = λ k sure lost. gone k sure lost (some_has m (numbered s k)) refl;
}
  where
    gone : (k : ℕ) → some_has l (numbered s k) ≡ true → some_has n (numbered s k) ≡ false → (b : Bool) → some_has m (numbered s k) ≡ b → slot_at u.entries k ≡ None
    gone k sure lost false e = none_of (slot_at u.entries k) (λ x. (let q = w.same k x in false≢true (ap is_some (sym (v.gone k sure e)) ∙ (ap is_some (sym q.entry) ∙ x))))
    gone k sure lost true e = none_of (slot_at u.entries k) (λ x. (let q = w.same k x in
        let z : IsSome (slot_at t.entries k) = ap is_some (sym q.entry) ∙ x in
        let i = same_number s t k (v.same k z) in
        let g = w.gone k (subst (λ (id : SegId). some_has m id ≡ true) (sym i) e) (subst (λ (id : SegId). some_has n id ≡ false) (sym i) lost) in
        false≢true (ap is_some (sym g) ∙ x)))

-- what is reserved is nothing to it
pub sheds_same : (s t : Shelf) (l m n : Maps) → n ≡ record m { reserved = n.reserved } → Sheds s l t m → Sheds s l t n
sheds_same s t l m n is w = record {
  memory = w.memory;
  size = w.size;
  count = w.count;
  made = w.made;
  map = w.map;
  same = w.same;
  left = λ k x y. w.left k x (sym (has (numbered s k)) ∙ y);
  other = w.other;
  gone = λ k sure lost. w.gone k sure (sym (has (numbered s k)) ∙ lost);
}
  where
    has : (id : SegId) → some_has n id ≡ some_has m id
    has id = ap (λ (x : Maps). some_has x id) is

-- what is held behind is held well
pub held_behind : (s t : Shelf) (m n : Maps) (pid : ℕ) (gone : ℕ → Bool) → IsHeldWell s m → LetsGo m n pid gone → Sheds s m t n → IsHeldWell t n
held_behind s t m n pid gone w g d = record {
  live = λ q i h e. live q i h e;
  inside = λ q i h e. (let x = w.inside q i h (held_before m n pid gone g q i h e).0 in let l = g.lengths q in omega (arith, x, l));
}
  where
    live : (q i : ℕ) (h : Held) → held_at n q i ≡ Some h → IsSome (entry_of t h.id)
    live q i h e =
        (let a = live_id s h.id (w.live q i h (held_before m n pid gone g q i h e).0) in
        let b = d.left h.id.key a.0 (subst (λ (id : SegId). some_has n id ≡ true) (sym a.1) (has_there n q i h e)) in
        id_live t h.id b (same_number s t h.id.key (d.same h.id.key b) ∙ a.1))

pub empty_behind : (m n : Maps) (pid : ℕ) (gone : ℕ → Bool) → AreEmpty m → LetsGo m n pid gone → AreEmpty n
empty_behind m n pid gone bare w q i e = go ((q == pid) && gone i) refl (w.held q i) (w.described q i)
  where
    go : (b : Bool) → ((q == pid) && gone i) ≡ b → held_at n q i ≡ cond b None (held_at m q i) → descriptor_at n q i ≡ cond b empty (descriptor_at m q i) → descriptor_at n q i ≡ empty
    go true x f g = g
    go false x f g = g ∙ bare q i (sym f ∙ e)

pub gone_not : (m n : Maps) (pid : ℕ) (gone : ℕ → Bool) → LetsGo m n pid gone → (id : SegId) → some_has m id ≡ false → some_has n id ≡ false
gone_not m n pid gone w id e = not_before m n pid gone w id e
