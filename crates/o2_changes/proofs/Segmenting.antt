-- What changes of segments leave of the order between store and tables.
use Rattle.std.proofs.Common.{◌≡◌, ◌≢◌, ℕ, ◌≤◌, inl, inr, List, length, Option, Some, None, is_some, IsSome, IfSome, Bool, true, false, cond, eqb, option_map, refl, sym, ap, ◌∙◌, subst, set}
use Rattle.std.proofs.lemmas.Bool.{cases_eq}
use Rattle.std.proofs.lemmas.List.{length-set}
use Rattle.o2_desc.specs.Bits.{rights_of}
use Rattle.o2_desc.specs.Bytes.{empty}
use Rattle.o2_entries.specs.declared.Entry.{Entry}
use Rattle.o2_entries.specs.declared.Attr.{Attr}
use Rattle.std.specs.Option.{IfNone}
use Rattle.o2_entries.specs.Tables.{live_numbers, slot_at}
use Rattle.o2_place.specs.declared.seg_id.SegId.{SegId}
use Rattle.o2_regions.specs.declared.held.Held.{Held}
use Rattle.o2_regions.specs.Maps.{Maps, IsProcess, held_at, table_of}
use Rattle.o2_segbus.specs.Settled.{Describes, IsSettled, IsSettledAt, descriptor_at}
use Rattle.o2_service.specs.Told.{IsHeldWell, OnlyTables}
use Rattle.o2_service.proofs.Amounts.{live_within, slot_some}
use Rattle.o2_service.proofs.Placing.{held_only, held_same}
use Rattle.o2_store.specs.declared.brought.Brought.{Brought}
use Rattle.o2_store.specs.declared.brought.Brought.TheVariants.{Here, NoRoom, SwapFull, SwapFault, Stale}
use Rattle.o2_store.specs.Needs.{has_age}
use Rattle.o2_store.specs.Shelf.{Shelf, Adds, KeepsAll, Pictures, aged, byte_at, entry, entry_of, entry_or, place_of}
use Rattle.o2_store.specs.Sizes.{GetsSize, Resizes}
use Rattle.o2_store.proofs.Tables.{slot-set_other, slot-set_same}
use Rattle.o2_changes.specs.Order.{IsInOrder}
use Rattle.o2_changes.specs.Segments.{SetsLock}
use Rattle.o2_changes.proofs.Keys.{aged_has}

-- where what is held keeps its size and its place
pub order_by : (s t : Shelf) (m : Maps) → ((pid i : ℕ) (h : Held) → held_at m pid i ≡ Some h → IsSome (entry_of t h.id))
    → ((pid i : ℕ) (h : Held) → held_at m pid i ≡ Some h → ((entry t h.id.key).size ≡ (entry s h.id.key).size) × (place_of t h.id.key ≡ place_of s h.id.key)) → IsInOrder s m → IsInOrder t m
order_by s t m live same o = record {
  held = record { live = live; inside = o.held.inside };
  settled = λ q j. go q j (held_at m q j) refl (o.settled q j);
  tables = o.tables;
}
  where
    go : (q j : ℕ) (x : Option Held) → held_at m q j ≡ x → IsSettledAt s x (descriptor_at m q j) → IsSettledAt t x (descriptor_at m q j)
    go q j None e a = a
    go q j (Some h) e a =
        let n = same q j h e in
        subst (λ (p : Option (ℕ × ℕ)). Describes p (entry t h.id.key).size (rights_of (descriptor_at m q j).access) (descriptor_at m q j)) (sym n.1)
        (subst (λ (x : ℕ). Describes (place_of s h.id.key) x (rights_of (descriptor_at m q j).access) (descriptor_at m q j)) (sym n.0) a)

-- a new segment is held by nobody
pub made_order : (s t : Shelf) (m : Maps) (id : SegId) (e : Entry) → Adds s t id e → IsInOrder s m → IsInOrder t m
made_order s t m id e a o = order_by s t m
    (λ pid i h q. subst (λ (x : Option Entry). IsSome (aged h.id.age x)) (sym (stays pid i h q)) (o.held.live pid i h q))
    (λ pid i h q. (ap (λ (x : Option Entry). (entry_or x).size) (stays pid i h q), ap (λ (x : Shelf). place_of x h.id.key) a.shelf)) o
  where
    other : (pid i : ℕ) (h : Held) → held_at m pid i ≡ Some h → h.id.key ≢ id.key
    other pid i h q same =
        let l = slot_some h.id.age (slot_at s.entries h.id.key) (o.held.live pid i h q) in
        let n : slot_at s.entries h.id.key ≡ None = ap (slot_at s.entries) same ∙ a.vacant in
        let f : false ≡ true = sym (ap is_some n) ∙ l in
        cc

    stays : (pid i : ℕ) (h : Held) → held_at m pid i ≡ Some h → slot_at t.entries h.id.key ≡ slot_at s.entries h.id.key
    stays pid i h q = ap (λ (x : Shelf). slot_at x.entries h.id.key) a.shelf ∙ slot-set_other s.entries id.key h.id.key (Some e) (other pid i h q)

has_entry : (o : Option Entry) (age : ℕ) → has_age o age ≡ true → eqb (entry_or o).age age ≡ true
has_entry None age h = absurd (cc)
has_entry (Some e) age h = h

-- a lock leaves sizes and places
pub locked_order : (s t : Shelf) (m : Maps) (id : SegId) (lock : ℕ) → SetsLock s t id lock → IsInOrder s m → IsInOrder t m
locked_order s t m id lock l o = order_by s t m (λ pid i h q. lives h (o.held.live pid i h q)) (λ pid i h q. (sizes h.id.key, ap (λ (x : Shelf). place_of x h.id.key) l.shelf)) o
  where
    lives : (h : Held) → IsSome (entry_of s h.id) → IsSome (entry_of t h.id)
    lives h live = elim (cases_eq h.id.key id.key) [
      | inr n ↦ subst (λ (x : Option Entry). IsSome (aged h.id.age x)) (sym (l.others h.id.key n)) live
      | inl e ↦
          (let a : has_age (slot_at s.entries h.id.key) h.id.age ≡ true = sym (aged_has h.id.age (slot_at s.entries h.id.key)) ∙ live in
          let b : eqb (entry s id.key).age h.id.age ≡ true = ap (λ (k : ℕ). eqb (entry s k).age h.id.age) (sym e) ∙ has_entry (slot_at s.entries h.id.key) h.id.age a in
          aged_has h.id.age (slot_at t.entries h.id.key) ∙ ap (λ (x : Option Entry). has_age x h.id.age) (ap (slot_at t.entries) e ∙ l.here) ∙ b)
    ]

    sizes : (k : ℕ) → (entry t k).size ≡ (entry s k).size
    sizes k = elim (cases_eq k id.key) [
      | inr n ↦ ap (λ (x : Option Entry). (entry_or x).size) (l.others k n)
      | inl e ↦ ap (λ (x : ℕ). (entry t x).size) e ∙ ap (λ (x : Option Entry). (entry_or x).size) l.here ∙ ap (λ (x : ℕ). (entry s x).size) (sym e)
    ]

-- what a call that sets attributes leaves
pub sets_lock : (s t : Shelf) (id : SegId) (a : Attr) → IsSome (entry_of s id) → t ≡ record s { turns = t.turns; entries = set s.entries id.key (Some (record (entry s id.key) { attr = a })) }
    → ((pic : Pictures) (block : ℕ → List ℕ) (k j : ℕ) → byte_at t pic block k j ≡ byte_at s pic block k j) → (lock : ℕ) → a ≡ record (entry s id.key).attr { lock = lock } → SetsLock s t id lock
sets_lock s t id a live is bytes lock same =
    let es = ap (λ (x : Shelf). x.entries) is in
    record {
      shelf = is ∙ ap (λ (x : List (Option Entry)). record s { turns = t.turns; entries = x }) (sym es);
      count = ap length es ∙ length-set s.entries id.key (Some (record (entry s id.key) { attr = a }));
      here = ap (λ (x : List (Option Entry)). slot_at x id.key) es ∙ slot-set_same s.entries id.key (Some (record (entry s id.key) { attr = a })) (live_within s id live)
          ∙ ap (λ (x : Attr). Some (record (entry s id.key) { attr = x })) same;
      others = λ k n. ap (λ (x : List (Option Entry)). slot_at x k) es ∙ slot-set_other s.entries id.key k (Some (record (entry s id.key) { attr = a })) n;
      bytes = bytes;
    }

pub attr_there : (o : Option Entry) (a : Attr) → option_map (λ (e : Entry). e.attr) o ≡ Some a → (age : ℕ) (p : Option Entry) → o ≡ aged age p → a ≡ (entry_or p).attr
attr_there o a is age None e = absurd (let x : ◌≡◌ {A = Option Attr} None (Some a) = ap (option_map (λ (e : Entry). e.attr)) (sym e) ∙ is in cc)
attr_there o a is age (Some e) same = go (eqb e.age age) (ap (option_map (λ (e : Entry). e.attr)) (sym same) ∙ is)
  where
    go : (b : Bool) → option_map (λ (x : Entry). x.attr) (cond b (Some e) None) ≡ Some a → a ≡ e.attr
    go true q = (let z : e.attr ≡ a = cc in sym z)
    go false q = absurd (cc)

pub settled_none : (s : Shelf) (m : Maps) → IsSettled s m → (pid i : ℕ) → held_at m pid i ≡ None → descriptor_at m pid i ≡ empty
settled_none s m a pid i e = subst (λ (x : Option Held). IsSettledAt s x (descriptor_at m pid i)) e (a pid i)

-- the tables behind a settling
pub told_order : (s : Shelf) (m n : Maps) → IsHeldWell s m → ((pid : ℕ) → IsProcess m pid → length (table_of m pid) ≡ 8192) → IsSettled s n → OnlyTables m n → IsInOrder s n
told_order s m n w long a r = record {
  held = held_only s m n w r;
  settled = a;
  tables = λ pid p. r.lengths pid ∙ long pid (subst (λ (c : ℕ). (1 ≤ pid) × (pid ≤ c)) (ap (λ (x : Maps). x.processes) r.rest) p);
}

-- what is live stays so where its segment gets a size
live_sized : (s t : Shelf) (told : Bool) (pic : Pictures) (a b : ℕ → List ℕ) (key size : ℕ) → Resizes told pic s a t b key size → (id : SegId) → IsSome (entry_of s id) → IsSome (entry_of t id)
live_sized s t told pic a b key size r id live = elim (cases_eq id.key key) [
  | inr n ↦ (let e = r.same id.key n in aged_has id.age (slot_at t.entries id.key) ∙ same_age (slot_at s.entries id.key) (slot_at t.entries id.key) id.age e.live e.age ∙ sym (aged_has id.age (slot_at s.entries id.key)) ∙ live)
  | inl q ↦ (let e = subst (λ (k : ℕ). GetsSize (slot_at s.entries k) (slot_at t.entries k) size) (sym q) r.here in
      aged_has id.age (slot_at t.entries id.key) ∙ same_age (slot_at s.entries id.key) (slot_at t.entries id.key) id.age e.live e.age ∙ sym (aged_has id.age (slot_at s.entries id.key)) ∙ live)
]
  where
    same_age : (o p : Option Entry) (age : ℕ) → is_some p ≡ is_some o → (entry_or p).age ≡ (entry_or o).age → has_age p age ≡ has_age o age
    same_age None None age l e = refl
    same_age None (Some y) age l e = absurd (cc)
    same_age (Some x) None age l e = absurd (cc)
    same_age (Some x) (Some y) age l e = ap (λ (n : ℕ). eqb n age) e

pub resized_held : (s t : Shelf) (m : Maps) (told : Bool) (pic : Pictures) (a b : ℕ → List ℕ) (key size : ℕ) (answer : Brought) → (answer ≡ Here → Resizes told pic s a t b key size)
    → ((answer ≡ Here → ⊥) → KeepsAll told pic s a t b) → IsHeldWell s m → IsHeldWell t m
resized_held s t m told pic a b key size Here r k w = record { live = λ pid i h e. live_sized s t told pic a b key size (r refl) h.id (w.live pid i h e); inside = w.inside }
resized_held s t m told pic a b key size NoRoom r k w = held_same s t m w (k (λ e. cc)).tables
resized_held s t m told pic a b key size SwapFull r k w = held_same s t m w (k (λ e. cc)).tables
resized_held s t m told pic a b key size SwapFault r k w = held_same s t m w (k (λ e. cc)).tables
resized_held s t m told pic a b key size Stale r k w = held_same s t m w (k (λ e. cc)).tables

-- whether there was room for it or not
pub made_still : (s t : Shelf) (m : Maps) (o : Option SegId) (e : Entry) → IfNone o ((length (live_numbers 0 s.entries) ≡ length s.entries) × (t ≡ s)) → IfSome o (λ id. Adds s t id e) → IsInOrder s m → IsInOrder t m
made_still s t m None e none some o = subst (λ (x : Shelf). IsInOrder x m) (sym none.1) o
made_still s t m (Some id) e none some o = made_order s t m id e some o
