-- Descriptors as they are told where segments are.
use Rattle.std.proofs.Common.{◌≡◌, ◌≢◌, ℕ, ◌+◌, ◌<◌, ◌≤◌, inl, inr, List, ◌∷◌, length, drop, Option, Some, None, is_some, IsSome, Bool, true, false, cond, eqb, refl, sym, ap, ◌∙◌, subst, arith, option_map}
use Rattle.std.specs.Option.{unwrap_or}
use Rattle.std.proofs.lemmas.Bool.{cases_eq, cases_lt, cond-true, cond-false}
use Rattle.std.proofs.lemmas.Bool.Decides.{nat_tests}
use Rattle.std.proofs.lemmas.List.{drop_more, drop_all, get_or_past}
use Rattle.o2_desc.specs.declared.descriptor.Descriptor.{Descriptor}
use Rattle.o2_desc.specs.Bits.{rights_of, with_present, unmarked}
use Rattle.o2_desc.specs.Bytes.{empty}
use Rattle.o2_entries.specs.declared.Entry.{Entry}
use Rattle.o2_entries.specs.Tables.{slot_at}
use Rattle.o2_place.specs.declared.ranges.Range.{Range}
use Rattle.o2_place.specs.declared.seg_id.SegId.{SegId}
use Rattle.o2_place.specs.Layout.{find_in, no_range, range_at}
use Rattle.o2_regions.specs.declared.held.Held.{Held}
use Rattle.o2_regions.specs.Maps.{Maps, held_at, is_of, table_of}
use Rattle.o2_regions.specs.Described.{Describes as Tells, entry_at, placed}
use Rattle.o2_segbus.specs.Settled.{Describes, IsSettled, IsSettledAt, descriptor_at, start_of}
use Rattle.o2_store.specs.Shelf.{Shelf, IsShelf, SameTables, aged, base_of, entry, entry_of, numbered, place_of}
use Rattle.o2_service.specs.Told.{AreToldBelow, AreToldWhere, IsHeldWell, IsToldWhere, OnlyTables}
use Rattle.o2_service.proofs.Amounts.{live_within, slot_some}
use Rattle.o2_service.proofs.Among.{live_same}

-- an access byte whose present bit was set or cleared has the rights that it had
told_access : (a : ℕ) (b : Bool) → unmarked (with_present a b) ≡ with_present (rights_of (with_present a b)) b
told_access a true = omega arith
told_access a false = omega arith

told_base : (base : Option ℕ) (place : Option (ℕ × ℕ)) → base ≡ option_map (λ (r : ℕ × ℕ). r.0) place → (unwrap_or base 0 ≡ start_of place) × (is_some base ≡ is_some place)
told_base base None e = rw e (refl, refl)
told_base base (Some r) e = rw e (refl, refl)

-- a descriptor that was told where its segment is
pub told_descriptor : (base : Option ℕ) (limit size : ℕ) (place : Option (ℕ × ℕ)) (d : Descriptor) → base ≡ option_map (λ (r : ℕ × ℕ). r.0) place → limit + 1 ≡ size
    → Describes place size (rights_of (placed base limit d).access) (placed base limit d)
told_descriptor base limit size place d e l =
    let b = told_base base place e in
    record {
      base = b.0;
      limit = l;
      access = told_access d.access (is_some base) ∙ ap (λ (x : Bool). with_present (rights_of (with_present d.access (is_some base))) x) b.1;
    }

-- what a telling leaves of what is held
pub told_held : (m n : Maps) (id : SegId) (base : Option ℕ) (limit : ℕ) → Tells m n id base limit → (pid i : ℕ) → held_at n pid i ≡ held_at m pid i
told_held m n id base limit t pid i = ap (λ (x : Maps). held_at x pid i) t.rest

-- descriptors of other segments stay
pub told_other : (m n : Maps) (id : SegId) (base : Option ℕ) (limit : ℕ) → Tells m n id base limit → (pid i : ℕ) → is_of id (held_at m pid i) ≡ false → descriptor_at n pid i ≡ descriptor_at m pid i
told_other m n id base limit t pid i other = elim (cases_lt i (length (table_of m pid))) [
  | inl within ↦ t.entries pid i within ∙ cond-false (is_of id (held_at m pid i)) (placed base limit (entry_at m pid i)) (entry_at m pid i) other
  | inr past ↦ (let l = t.lengths pid in get_or_past (table_of n pid) i empty (omega (arith, l, past)) ∙ sym (get_or_past (table_of m pid) i empty past))
]

pub told_here : (m n : Maps) (id : SegId) (base : Option ℕ) (limit : ℕ) → Tells m n id base limit → (pid i : ℕ) → i < length (table_of m pid) → is_of id (held_at m pid i) ≡ true
    → descriptor_at n pid i ≡ placed base limit (descriptor_at m pid i)
told_here m n id base limit t pid i within here = t.entries pid i within ∙ cond-true (is_of id (held_at m pid i)) (placed base limit (entry_at m pid i)) (entry_at m pid i) here

-- of two live segments with one number, one is the other
age_of_live : (age : ℕ) (o : Option Entry) → IsSome (aged age o) → (e : Entry) → o ≡ Some e → e.age ≡ age
age_of_live age None i e q = absurd cc
age_of_live age (Some x) i e q = elim (cases_eq x.age age) [
  | inl same ↦ ap (λ (o : Option Entry). (unwrap_or o x).age) (sym q) ∙ same
  | inr other ↦ absurd (let t : eqb x.age age ≡ false = grind (arith, nat_tests) in let f : false ≡ true = rw t at i in cc)
]

same_age : (a b : ℕ) (o : Option Entry) → IsSome (aged a o) → IsSome (aged b o) → a ≡ b
same_age a b None i j = absurd (let f : false ≡ true = i in cc)
same_age a b (Some x) i j = sym (age_of_live a (Some x) i x refl) ∙ age_of_live b (Some x) j x refl

is_of_key : (s : Shelf) (id : SegId) (h : Held) → IsSome (entry_of s id) → IsSome (entry_of s h.id) → h.id.key ≡ id.key → is_of id (Some h) ≡ true
is_of_key s id h i j same =
    let j2 : IsSome (aged h.id.age (slot_at s.entries id.key)) = subst (λ (k : ℕ). IsSome (aged h.id.age (slot_at s.entries k))) same j in
    let age : h.id.age ≡ id.age = same_age h.id.age id.age (slot_at s.entries id.key) j2 i in
    let a : eqb h.id.key id.key ≡ true = grind (arith, nat_tests) in
    let b : eqb h.id.age id.age ≡ true = grind (arith, nat_tests) in
    rw (a, b) refl

is_of_other : (id : SegId) (h : Held) → h.id.key ≢ id.key → is_of id (Some h) ≡ false
is_of_other id h n = (let a : eqb h.id.key id.key ≡ false = grind (arith, nat_tests) in rw a refl)

-- where a live segment in memory begins
pub base_there : (o : Option Entry) (p : Option (ℕ × ℕ)) → IsSome o → base_of o p ≡ option_map (λ (r : ℕ × ℕ). r.0) p
base_there None p i = absurd (let f : false ≡ true = i in cc)
base_there (Some e) None i = refl
base_there (Some e) (Some r) i = refl

-- where one segment is told where it is, descriptors agree with the store for its number too
pub told_one : (P Q : ℕ → Type 0) (s : Shelf) (m n : Maps) (id : SegId) (base : Option ℕ) (limit : ℕ) → AreToldWhere P s m → IsHeldWell s m → Tells m n id base limit → IsSome (entry_of s id)
    → ((k : ℕ) → k ≢ id.key → Q k → P k) → base ≡ base_of (entry_of s id) (place_of s id.key) → limit + 1 ≡ (entry s id.key).size → AreToldWhere Q s n
told_one P Q s m n id base limit a w t live more b l = record {
  each = λ pid i. subst (λ (o : Option Held). IsToldWhere Q s o (descriptor_at n pid i)) (sym (told_held m n id base limit t pid i)) (go pid i (held_at m pid i) refl);
}
  where
    there : base ≡ option_map (λ (r : ℕ × ℕ). r.0) (place_of s id.key)
    there = b ∙ base_there (entry_of s id) (place_of s id.key) live

    go : (pid i : ℕ) (o : Option Held) → held_at m pid i ≡ o → IsToldWhere Q s o (descriptor_at n pid i)
    go pid i None e = told_other m n id base limit t pid i (ap (is_of id) e) ∙ subst (λ (o : Option Held). IsToldWhere P s o (descriptor_at m pid i)) e (a.each pid i)
    go pid i (Some h) e = λ q. elim (cases_eq h.id.key id.key) [
      | inl here ↦
          (let x = told_here m n id base limit t pid i (w.inside pid i h e) (ap (is_of id) e ∙ is_of_key s id h live (w.live pid i h e) here) in
          let y = told_descriptor base limit (entry s id.key).size (place_of s id.key) (descriptor_at m pid i) there l in
          subst (λ (d : Descriptor). Describes (place_of s h.id.key) (entry s h.id.key).size (rights_of d.access) d) (sym x)
          (subst (λ (k : ℕ). Describes (place_of s k) (entry s k).size (rights_of (placed base limit (descriptor_at m pid i)).access) (placed base limit (descriptor_at m pid i))) (sym here) y))
      | inr other ↦
          (let x = told_other m n id base limit t pid i (ap (is_of id) e ∙ is_of_other id h other) in
          let y : IsToldWhere P s (Some h) (descriptor_at m pid i) = subst (λ (o : Option Held). IsToldWhere P s o (descriptor_at m pid i)) e (a.each pid i) in
          subst (λ (d : Descriptor). Describes (place_of s h.id.key) (entry s h.id.key).size (rights_of d.access) d) (sym x) (y (more h.id.key other q)))
    ]

-- those that didn't move are told already
pub told_still : (P : ℕ → Type 0) (s t : Shelf) (m : Maps) → IsSettled s m → ((k : ℕ) → P k → place_of t k ≡ place_of s k) → ((k : ℕ) → (entry t k).size ≡ (entry s k).size) → AreToldWhere P t m
told_still P s t m a same sizes = record { each = λ pid i. go (held_at m pid i) (descriptor_at m pid i) (a pid i) }
  where
    go : (o : Option Held) (d : Descriptor) → IsSettledAt s o d → IsToldWhere P t o d
    go None d x = x
    go (Some h) d x = λ p.
        subst (λ (n : ℕ). Describes (place_of t h.id.key) n (rights_of d.access) d) (sym (sizes h.id.key)) (subst (λ (z : Option (ℕ × ℕ)). Describes z (entry s h.id.key).size (rights_of d.access) d) (sym (same h.id.key p)) x)

-- where all are told, the descriptors agree with the store
pub told_all : (P : ℕ → Type 0) (s : Shelf) (m : Maps) → AreToldWhere P s m → ((k : ℕ) → P k) → IsSettled s m
told_all P s m a all pid i = go (held_at m pid i) (descriptor_at m pid i) (a.each pid i)
  where
    go : (o : Option Held) (d : Descriptor) → IsToldWhere P s o d → IsSettledAt s o d
    go None d x = x
    go (Some h) d x = x (all h.id.key)

-- what only changes descriptors, and what is held well then
pub only_refl : (m : Maps) → OnlyTables m m
only_refl m = record { rest = refl; lengths = λ pid. refl; rights = λ pid i. refl }

present_rights : (a : ℕ) (b : Bool) → rights_of (with_present a b) ≡ rights_of a
present_rights a true = omega arith
present_rights a false = omega arith

-- a telling leaves all rights
told_rights : (m n : Maps) (id : SegId) (base : Option ℕ) (limit : ℕ) → Tells m n id base limit → (pid i : ℕ) → rights_of (descriptor_at n pid i).access ≡ rights_of (descriptor_at m pid i).access
told_rights m n id base limit t pid i = elim (cases_lt i (length (table_of m pid))) [
  | inl within ↦ ap (λ (d : Descriptor). rights_of d.access) (t.entries pid i within) ∙ go (is_of id (held_at m pid i))
  | inr past ↦
      (let l = t.lengths pid in
      ap (λ (d : Descriptor). rights_of d.access) (get_or_past (table_of n pid) i empty (omega (arith, l, past)) ∙ sym (get_or_past (table_of m pid) i empty past)))
]
  where
    go : (b : Bool) → rights_of (cond b (placed base limit (entry_at m pid i)) (entry_at m pid i)).access ≡ rights_of (entry_at m pid i).access
    go true = present_rights (entry_at m pid i).access (is_some base)
    go false = refl

pub only_told : (l m n : Maps) (id : SegId) (base : Option ℕ) (limit : ℕ) → OnlyTables l m → Tells m n id base limit → OnlyTables l n
only_told l m n id base limit o t = record {
  rest = t.rest ∙ ap (λ (x : Maps). record x { tables = n.tables }) o.rest;
  lengths = λ pid. t.lengths pid ∙ o.lengths pid;
  rights = λ pid i. told_rights m n id base limit t pid i ∙ o.rights pid i;
}

pub only_trans : (l m n : Maps) → OnlyTables l m → OnlyTables m n → OnlyTables l n
only_trans l m n o t = record {
  rest = t.rest ∙ ap (λ (x : Maps). record x { tables = n.tables }) o.rest;
  lengths = λ pid. t.lengths pid ∙ o.lengths pid;
  rights = λ pid i. t.rights pid i ∙ o.rights pid i;
}

only_held : (m n : Maps) → OnlyTables m n → (pid i : ℕ) → held_at n pid i ≡ held_at m pid i
only_held m n o pid i = ap (λ (x : Maps). held_at x pid i) o.rest

pub held_only : (s : Shelf) (m n : Maps) → IsHeldWell s m → OnlyTables m n → IsHeldWell s n
held_only s m n w o = record {
  live = λ pid i h e. w.live pid i h (sym (only_held m n o pid i) ∙ e);
  inside = λ pid i h e. (let l = o.lengths pid in let x = w.inside pid i h (sym (only_held m n o pid i) ∙ e) in omega (arith, l, x));
}

pub held_same : (s t : Shelf) (m : Maps) → IsHeldWell s m → SameTables s t → IsHeldWell t m
held_same s t m w q = record { live = λ pid i h e. live_same s t h.id q (w.live pid i h e); inside = w.inside }

-- the account without the first ranges, one range on
pub drop_same : (rs : List Range) (k : ℕ) (r : Range) (j : ℕ) → k < length rs → r ≡ range_at rs k → j ≢ r.id → find_in (drop (k + 1) rs) j ≡ find_in (drop k rs) j
drop_same rs k r j l e n =
    let t : eqb j r.id ≡ false = grind (arith, nat_tests) in
    sym (ap (λ (x : List Range). find_in x j) (drop_more rs k no_range l ∙ ap (λ (x : Range). x ∷ drop (k + 1) rs) (sym e))
    ∙ cond-false (eqb j r.id) (Some (r.at, r.len)) (find_in (drop (k + 1) rs) j) t)

-- past the last range there is none
pub drop_none : (rs : List Range) (k j : ℕ) → length rs ≤ k → find_in (drop k rs) j ≡ None
drop_none rs k j l = ap (λ (x : List Range). find_in x j) (drop_all k rs l)

-- a live segment isn't empty, and has at most 65,536 bytes
pub live_size : (s : Shelf) (id : SegId) → IsShelf s → IsSome (entry_of s id) → (0 < (entry s id.key).size) × ((entry s id.key).size ≤ 65536)
live_size s id h i =
    let l = live_within s id i in
    let e = h.each id.key l in
    (e.live (slot_some id.age (slot_at s.entries id.key) i), e.sized)

-- numbers one after the other
pub below_none : (m : Maps) (s : Shelf) → ((pid i : ℕ) → held_at m pid i ≡ None → descriptor_at m pid i ≡ empty) → AreToldBelow 0 s m
below_none m s e = record { each = λ pid i. go (held_at m pid i) (descriptor_at m pid i) (e pid i) }
  where
    go : (o : Option Held) (d : Descriptor) → (o ≡ None → d ≡ empty) → IsToldWhere (λ k. k < 0) s o d
    go None d f = f refl
    go (Some h) d f = λ l. absurd (omega (arith, l))

-- a number without a segment is held by nobody
pub below_skip : (n : ℕ) (s : Shelf) (m : Maps) → AreToldBelow n s m → IsHeldWell s m → slot_at s.entries n ≡ None → AreToldBelow (n + 1) s m
below_skip n s m a w none = record { each = λ pid i. go pid i (held_at m pid i) refl }
  where
    go : (pid i : ℕ) (o : Option Held) → held_at m pid i ≡ o → IsToldWhere (λ k. k < n + 1) s o (descriptor_at m pid i)
    go pid i None e = subst (λ (o : Option Held). IsToldWhere (λ k. k < n) s o (descriptor_at m pid i)) e (a.each pid i)
    go pid i (Some h) e = λ l. elim (cases_lt h.id.key n) [
      | inl low ↦
          (let x : IsToldWhere (λ k. k < n) s (Some h) (descriptor_at m pid i) = subst (λ (o : Option Held). IsToldWhere (λ k. k < n) s o (descriptor_at m pid i)) e (a.each pid i) in x low)
      | inr high ↦ absurd (let k : h.id.key ≡ n = omega (arith, l, high) in
          let i2 : IsSome (slot_at s.entries h.id.key) = slot_some h.id.age (slot_at s.entries h.id.key) (w.live pid i h e) in
          let i3 : IsSome (slot_at s.entries n) = subst (λ (x : ℕ). IsSome (slot_at s.entries x)) k i2 in
          let f : true ≡ false = sym i3 ∙ ap is_some none in cc)
    ]

-- all numbers
pub below_all : (s : Shelf) (m : Maps) → AreToldBelow (length s.entries) s m → IsHeldWell s m → IsSettled s m
below_all s m a w pid i = go (held_at m pid i) refl (a.each pid i)
  where
    go : (o : Option Held) → held_at m pid i ≡ o → IsToldWhere (λ k. k < length s.entries) s o (descriptor_at m pid i) → IsSettledAt s o (descriptor_at m pid i)
    go None e x = x
    go (Some h) e x = x (live_within s h.id (w.live pid i h e))

-- one more of those that slid is told
pub slid_more : (s : Shelf) (k : ℕ) (id : SegId) → k < length s.places.ranges → id.key ≡ (range_at s.places.ranges k).id → (j : ℕ) → j ≢ id.key → find_in (drop (k + 1) s.places.ranges) j ≡ None → find_in (drop k s.places.ranges) j ≡ None
slid_more s k id l key j n none = sym (drop_same s.places.ranges k (range_at s.places.ranges k) j l refl (λ e. n (e ∙ sym key))) ∙ none

-- the segment of a number, if it has one
pub numbered_is : (o : Option Entry) (x id : SegId) → option_map (λ (e : Entry). x) o ≡ Some id → (id ≡ x) × IsSome o
numbered_is None x id e = absurd cc
numbered_is (Some y) x id e = (ap (λ (o : Option SegId). unwrap_or o x) (sym e), refl)

pub unnumbered : (o : Option Entry) (x : SegId) → ◌≡◌ {A = Option SegId} (option_map (λ (e : Entry). x) o) None → o ≡ None
unnumbered None x e = refl
unnumbered (Some y) x e = absurd cc

pub live_of : (s : Shelf) (key : ℕ) → IsSome (slot_at s.entries key) → IsSome (entry_of s (numbered s key))
live_of s key i = go (slot_at s.entries key) refl i
  where
    go : (o : Option Entry) → slot_at s.entries key ≡ o → IsSome o → IsSome (entry_of s (numbered s key))
    go None e j = absurd (let f : false ≡ true = j in cc)
    go (Some x) e j = (let t : eqb x.age x.age ≡ true = grind (arith, nat_tests) in rw (e, t) refl)

-- a number's segment is told where it is
pub below_at : (s : Shelf) (m n : Maps) (key : ℕ) (id : SegId) (base : Option ℕ) (limit : ℕ) → AreToldBelow key s m → IsHeldWell s m → Tells m n id base limit → id.key ≡ key
    → IsSome (entry_of s id) → base ≡ base_of (entry_of s id) (place_of s id.key) → limit + 1 ≡ (entry s id.key).size → AreToldBelow (key + 1) s n
below_at s m n key id base limit a w t same live b l = told_one (λ k. k < key) (λ k. k < key + 1) s m n id base limit a w t live (λ k ne q. omega (arith, ne, q, same)) b l
