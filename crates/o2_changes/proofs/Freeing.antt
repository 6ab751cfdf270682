-- Indexes that may be chosen again, or no longer; and segments that nobody holds.
use Rattle.std.proofs.Common.{◌≡◌, ◌≢◌, ℕ, zero, suc, ◌+◌, ◌/◌, ◌%◌, ◌<◌, ◌≤◌, ◌&&◌, ◌||◌, inl, inr, List, [], ◌∷◌, map, Option, Some, None, is_some, IsSome, Bool, true}
use Rattle.std.proofs.Common.{false, cond, eqb, nat_le, nat_lt, refl, sym, ap, ◌∙◌, subst, arith, get_or, IfSome}
use Rattle.std.specs.Prelude.{slice_get}
use Rattle.std.proofs.lemmas.Bool.{cases_eq, cases_lt, cond-true, cond-false, eq-eqb, ne_eqb, eqb-true, and_parts}
use Rattle.std.proofs.lemmas.Bool.Decides.{nat_tests}
use Rattle.o2_desc.specs.Choice.{IsRun}
use Rattle.o2_entries.specs.declared.Entry.{Entry}
use Rattle.o2_entries.specs.Tables.{slot_at}
use Rattle.o2_place.specs.declared.seg_id.SegId.{SegId}
use Rattle.o2_regions.specs.declared.held.Held.{Held}
use Rattle.o2_regions.specs.declared.held.Region.{Region}
use Rattle.o2_regions.specs.declared.held.Region.TheVariants.{Private, Shared}
use Rattle.o2_regions.specs.Kept.{AreKept}
use Rattle.o2_regions.specs.Links.{holders, pair_at, places_from}
use Rattle.o2_regions.specs.Maps.{Maps, IsProcess, IsRegion, base_of, end_of, first_of, held_at, is_held, is_of, is_reserved, is_taken, place, region_of, same_region, some_holds, with_reserved}
use Rattle.o2_regions.proofs.Reserves.{held_reserved, is_private, is_reserved-with, is_shared, unheld_shared}
use Rattle.o2_store.specs.Shelf.{Shelf, Removes, aged, entry_of, entry_or}
use Rattle.o2_changes.specs.Holding.{FreesIndex, Grants, IsUnheld, TakesIndex}
use Rattle.o2_changes.specs.Order.{IsInOrder}
use Rattle.o2_changes.proofs.Segmenting.{order_by}
use Rattle.o2_changes.proofs.Taken.{held_region, pair_hit, same_is}

one_index : (i j : ℕ) → (nat_le i j && nat_lt j (i + 1)) ≡ eqb j i
one_index i j = grind (arith, nat_tests)

covers : (b r : Bool) → (b ≡ true → r ≡ true) → (b || r) ≡ r
covers true r f = sym (f refl)
covers false r f = refl

-- what may not be chosen is what is reserved
pub taken_reserved : (m : Maps) (g : Region) (j : ℕ) → AreKept m → first_of g ≤ j → j < end_of g → is_taken m g j ≡ is_reserved m g j
taken_reserved m g j k a b = covers (is_held m g j) (is_reserved m g j) (held_reserved m g j k a b)

cond_or : (c r : Bool) → cond c true r ≡ (c || r)
cond_or true r = refl
cond_or false r = refl

-- an index that is reserved behind it
pub takes_index : (l m n : Maps) (pid i : ℕ) → AreKept l → AreKept n → IsRegion l (region_of pid i) → i + 1 ≤ end_of (region_of pid i) → m ≡ with_reserved l (region_of pid i) i 1 true → n.reserved ≡ m.reserved → TakesIndex l n pid i
takes_index l m n pid i kl kn r e is same g j rg a b =
    taken_reserved n g j kn a b
    ∙ ap (λ (xs : List Bool). nat_lt j (end_of g) && get_or xs (base_of g + j) false) (same ∙ ap (λ (x : Maps). x.reserved) is)
    ∙ is_reserved-with l (region_of pid i) g i 1 j true kl r rg e
    ∙ ap (λ (c : Bool). cond (same_region g (region_of pid i) && c) true (is_reserved l g j)) (one_index i j)
    ∙ cond_or (same_region g (region_of pid i) && eqb j i) (is_reserved l g j)
    ∙ ap (λ (x : Bool). (same_region g (region_of pid i) && eqb j i) || x) (sym (taken_reserved l g j kl a b))

-- holds look at what is held alone
some_same : (m n : Maps) (i c : ℕ) → n.held ≡ m.held → some_holds n i c ≡ some_holds m i c
unfolding some_holds
some_same m n i zero e = refl
some_same m n i (suc c) e = ap (λ (x : Option Held). is_some x || some_holds n i c) (ap (λ (xs : List (Option Held)). cond (nat_lt i 8192) (get_or xs (place (c + 1) i) None) None) e) ∙ ap (λ (x : Bool). is_some (held_at m (c + 1) i) || x) (some_same m n i c e)

pub held_same : (m n : Maps) (g : Region) (i : ℕ) → n.held ≡ m.held → n.processes ≡ m.processes → is_held n g i ≡ is_held m g i
held_same m n (Private pid) i e f = ap (λ (xs : List (Option Held)). is_some (cond (nat_lt i 8192) (get_or xs (place pid i) None) None)) e
held_same m n Shared i e f = some_same m n i n.processes e ∙ ap (some_holds m i) f

or_false : (b : Bool) → (b || false) ≡ b
or_false true = refl
or_false false = refl

-- an index that isn't reserved behind it
pub frees_index : (m n : Maps) (pid i : ℕ) → AreKept m → IsRegion m (region_of pid i) → i + 1 ≤ end_of (region_of pid i) → n ≡ with_reserved m (region_of pid i) i 1 false → FreesIndex m n pid i
frees_index m n pid i k r e is g j rg a b =
    ap (λ (x : Maps). is_taken x g j) is
    ∙ ap (λ (x : Bool). x || is_reserved (with_reserved m (region_of pid i) i 1 false) g j) (held_same m (with_reserved m (region_of pid i) i 1 false) g j refl refl)
    ∙ ap (λ (x : Bool). is_held m g j || x) (is_reserved-with m (region_of pid i) g i 1 j false k r rg e ∙ ap (λ (c : Bool). cond (same_region g (region_of pid i) && c) false (is_reserved m g j)) (one_index i j))
    ∙ split (same_region g (region_of pid i) && eqb j i) (is_held m g j) (is_reserved m g j)
    ∙ ap (λ (x : Bool). cond (same_region g (region_of pid i) && eqb j i) x (is_taken m g j)) (sym (ap (λ (x : Maps). is_held x g j) is ∙ held_same m (with_reserved m (region_of pid i) i 1 false) g j refl refl))
  where
    split : (c h r : Bool) → (h || cond c false r) ≡ cond c h (h || r)
    split true h r = or_false h
    split false h r = refl

-- an index that is held stays as it is
pub held_stays : (m : Maps) (pid i : ℕ) → is_held m (region_of pid i) i ≡ true → FreesIndex m m pid i
held_stays m pid i held g j rg a b = go (same_region g (region_of pid i) && eqb j i) refl
  where
    go : (c : Bool) → (same_region g (region_of pid i) && eqb j i) ≡ c → is_taken m g j ≡ cond c (is_held m g j) (is_taken m g j)
    go false e = refl
    go true e =
        let t = and_parts (same_region g (region_of pid i)) (eqb j i) e in
        let h : is_held m g j ≡ true = subst (λ (x : Region). is_held m x j ≡ true) (sym (same_is g (region_of pid i) t.0)) (subst (λ (y : ℕ). is_held m (region_of pid i) y ≡ true) (sym (eqb-true j i t.1)) held) in
        ap (λ (x : Bool). x || is_reserved m g j) h ∙ sym h

-- index 0 is in no region
pub zero_stays : (m : Maps) (pid : ℕ) → FreesIndex m m pid 0
zero_stays m pid g j rg a b = sym (cond-false (same_region g (region_of pid 0) && eqb j 0) (is_held m g j) (is_taken m g j) (never (same_region g (region_of pid 0)) (low g a)))
  where
    low : (g : Region) → first_of g ≤ j → eqb j 0 ≡ false
    low (Private q) a = ne_eqb j 0 (omega (arith, a))
    low Shared a = ne_eqb j 0 (omega (arith, a))

    never : (s : Bool) → eqb j 0 ≡ false → (s && eqb j 0) ≡ false
    never true e = e
    never false e = refl

-- the holders of a segment
none_from : (id : SegId) (os : List (Option Held)) (at : ℕ) → places_from (is_of id) os at ≡ [] → (k : ℕ) → is_of id (get_or os k None) ≡ false
none_from id [] at e k = refl
none_from id (o ∷ os) at e k = go (is_of id o) refl e (none_from id os (at + 1)) k
  where
    go : (b : Bool) → is_of id o ≡ b → cond b (at ∷ places_from (is_of id) os (at + 1)) (places_from (is_of id) os (at + 1)) ≡ []
        → (places_from (is_of id) os (at + 1) ≡ [] → (k : ℕ) → is_of id (get_or os k None) ≡ false) → (k : ℕ) → is_of id (get_or (o ∷ os) k None) ≡ false
    go true f g rest k = absurd cc
    go false f g rest zero = f
    go false f g rest (suc k) = rest g k

first_none : (ps : List ℕ) → ◌≡◌ {A = Option (ℕ × ℕ)} (slice_get (map pair_at ps) 0) None → ps ≡ []
first_none [] e = refl
first_none (p ∷ ps) e = absurd cc

pub unheld : (m : Maps) (id : SegId) → ◌≡◌ {A = Option (ℕ × ℕ)} (slice_get (holders m id) 0) None → IsUnheld m id
unheld m id e pid i = elim (cases_lt i 8192) [
  | inl l ↦ ap (is_of id) (cond-true (nat_lt i 8192) (get_or m.held (place pid i) None) None (grind (arith, nat_tests))) ∙ none_from id m.held 0 (first_none (places_from (is_of id) m.held 0) e) (place pid i)
  | inr l ↦ ap (is_of id) (cond-false (nat_lt i 8192) (get_or m.held (place pid i) None) None (grind (arith, nat_tests)))
]

first_some : (id : SegId) (os : List (Option Held)) (at p : ℕ) → slice_get (places_from (is_of id) os at) 0 ≡ Some p → (k : ℕ) × (p ≡ at + k) × (is_of id (get_or os k None) ≡ true)
first_some id [] at p e = absurd cc
first_some id (o ∷ os) at p e = go (is_of id o) refl e (first_some id os (at + 1) p)
  where
    go : (b : Bool) → is_of id o ≡ b → slice_get (cond b (at ∷ places_from (is_of id) os (at + 1)) (places_from (is_of id) os (at + 1))) 0 ≡ Some p
        → (slice_get (places_from (is_of id) os (at + 1)) 0 ≡ Some p → (k : ℕ) × (p ≡ at + 1 + k) × (is_of id (get_or os k None) ≡ true)) → (k : ℕ) × (p ≡ at + k) × (is_of id (get_or (o ∷ os) k None) ≡ true)
    go true f g rest = (let z : at ≡ p = cc in (0, omega (arith, z), f))
    go false f g rest = (let r = rest g in let q = r.1 in (suc r.0, omega (arith, q), r.2))

mapped_place : (ps : List ℕ) (q : ℕ × ℕ) → slice_get (map pair_at ps) 0 ≡ Some q → (p : ℕ) × (slice_get ps 0 ≡ Some p) × (q ≡ pair_at p)
mapped_place [] q e = absurd cc
mapped_place (p ∷ ps) q e = (let z : pair_at p ≡ q = cc in (p, refl, sym z))

pub a_holder : (m : Maps) (id : SegId) (q : ℕ × ℕ) → slice_get (holders m id) 0 ≡ Some q → is_of id (held_at m q.0 q.1) ≡ true
a_holder m id q e =
    let r = mapped_place (places_from (is_of id) m.held 0) q e in
    let f = first_some id m.held 0 r.0 r.1 in
    let small : nat_lt (r.0 % 8192) 8192 ≡ true = grind (arith, nat_tests) in
    let fk = f.1 in
    let same : place (r.0 / 8192) (r.0 % 8192) ≡ f.0 = omega (arith, fk) in
    subst (λ (x : ℕ × ℕ). is_of id (held_at m x.0 x.1) ≡ true) (sym r.2)
    (ap (is_of id) (cond-true (nat_lt (r.0 % 8192) 8192) (get_or m.held (place (r.0 / 8192) (r.0 % 8192)) None) None small ∙ ap (λ (y : ℕ). get_or m.held y None) same) ∙ f.2)

-- A segment that nobody holds.

aged_is : (age : ℕ) (o : Option Entry) → IsSome (aged age o) → (entry_or o).age ≡ age
aged_is age None i = absurd (let f : false ≡ true = i in cc)
aged_is age (Some e) i = elim (cases_eq e.age age) [
  | inl same ↦ same
  | inr other ↦ absurd (let f : false ≡ true = sym (ap is_some (cond-false (eqb e.age age) (Some e) None (ne_eqb e.age age other))) ∙ i in cc)
]

-- of two live segments with one number, one is the other
pub keys_apart : (s : Shelf) (id : SegId) (h : Held) → IsSome (entry_of s id) → IsSome (entry_of s h.id) → is_of id (Some h) ≡ false → h.id.key ≢ id.key
keys_apart s id h i j other same =
    let a = aged_is id.age (slot_at s.entries id.key) i in
    let b = aged_is h.id.age (slot_at s.entries h.id.key) j in
    let c : h.id.age ≡ id.age = sym b ∙ ap (λ (k : ℕ). (entry_or (slot_at s.entries k)).age) same ∙ a in
    let t : is_of id (Some h) ≡ true = rw (eq-eqb h.id.key id.key same, eq-eqb h.id.age id.age c) refl in
    let f : false ≡ true = sym other ∙ t in
    cc

pub swept_order : (s t : Shelf) (m : Maps) (id : SegId) → IsSome (entry_of s id) → IsUnheld m id → Removes s t id.key → IsInOrder s m → IsInOrder t m
swept_order s t m id live none r o = order_by s t m
    (λ q j h e. subst (λ (x : Option Entry). IsSome (aged h.id.age x)) (sym (r.entries h.id.key (apart q j h e))) (o.held.live q j h e))
    (λ q j h e. (ap (λ (x : Option Entry). (entry_or x).size) (r.entries h.id.key (apart q j h e)), r.places h.id.key (apart q j h e))) o
  where
    apart : (q j : ℕ) (h : Held) → held_at m q j ≡ Some h → h.id.key ≢ id.key
    apart q j h e = keys_apart s id h live (o.held.live q j h e) (sym (ap (is_of id) e) ∙ none q j)

-- who holds a shared index

pub shared_some : (m : Maps) (i n pid : ℕ) → is_some (held_at m pid i) ≡ true → 1 ≤ pid → pid ≤ n → some_holds m i n ≡ true
shared_some m i n pid held a b = go (some_holds m i n) refl
  where
    go : (t : Bool) → some_holds m i n ≡ t → t ≡ true
    go true e = refl
    go false e = absurd (let z : false ≡ true = sym (unheld_shared m i n pid e a b) ∙ held in cc)

pub nobody_yet : (m : Maps) (i n : ℕ) → n ≡ 0 → some_holds m i n ≡ false
unfolding some_holds
nobody_yet m i n e = ap (some_holds m i) e

pub nobody_more : (m : Maps) (i n : ℕ) → some_holds m i n ≡ false → is_some (held_at m (n + 1) i) ≡ false → some_holds m i (n + 1) ≡ false
unfolding some_holds
nobody_more m i n none here =
    let one : n + 1 ≡ suc n = omega arith in
    ap (some_holds m i) one ∙ ap (λ (b : Bool). b || some_holds m i n) here ∙ none

pub region_there : (m : Maps) (pid i : ℕ) → IsProcess m pid → IsRegion m (region_of pid i)
region_there m pid i p = elim (cases_lt i 4096) [
  | inl low ↦ subst (IsRegion m) (sym (is_private pid i low)) p
  | inr high ↦ subst (IsRegion m) (sym (is_shared pid i high)) tt
]

pub region_end : (pid i : ℕ) → i < 8192 → i + 1 ≤ end_of (region_of pid i)
region_end pid i small = elim (cases_lt i 4096) [
  | inl low ↦ subst (λ (g : Region). i + 1 ≤ end_of g) (sym (is_private pid i low)) (omega (arith, low))
  | inr high ↦ subst (λ (g : Region). i + 1 ≤ end_of g) (sym (is_shared pid i high)) (omega (arith, small))
]

-- An index that is reserved stays taken, and one that is free is held by nobody.

pub still_taken : (m n : Maps) (pid i : ℕ) → AreKept m → AreKept n → is_reserved m (region_of pid i) i ≡ true → n.reserved ≡ m.reserved → TakesIndex m n pid i
still_taken m n pid i k kn there same g j rg a b =
    taken_reserved n g j kn a b ∙ ap (λ (xs : List Bool). nat_lt j (end_of g) && get_or xs (base_of g + j) false) same
    ∙ go (same_region g (region_of pid i) && eqb j i) refl
    ∙ ap (λ (x : Bool). (same_region g (region_of pid i) && eqb j i) || x) (sym (taken_reserved m g j k a b))
  where
    go : (hit : Bool) → (same_region g (region_of pid i) && eqb j i) ≡ hit → is_reserved m g j ≡ (hit || is_reserved m g j)
    go false e = refl
    go true e = (let t = pair_hit g pid i j e in subst (λ (x : Region). is_reserved m x j ≡ true) (sym t.0) (subst (λ (y : ℕ). is_reserved m (region_of pid i) y ≡ true) (sym t.1) there))

none_is : (o : Option Held) → is_some o ≡ false → o ≡ None
none_is None e = refl
none_is (Some h) e = absurd (cc)

pub not_held : (m : Maps) (pid i : ℕ) → IsProcess m pid → IsRun (is_taken m (region_of pid i)) (first_of (region_of pid i)) (end_of (region_of pid i)) 1 i → held_at m pid i ≡ None
not_held m pid i p run = none_is (held_at m pid i) (go (is_some (held_at m pid i)) refl)
  where
    go : (b : Bool) → is_some (held_at m pid i) ≡ b → is_some (held_at m pid i) ≡ false
    go false e = e
    go true e =
        let h : is_held m (region_of pid i) i ≡ true = held_region m pid i p e in
        let free : is_taken m (region_of pid i) i ≡ false = run.2 i (omega arith) (omega arith) in
        let f : true ≡ false = sym (ap (λ (b : Bool). b || is_reserved m (region_of pid i) i) h) ∙ free in
        absurd (cc)

pub none_same : {o : Option Held} → o ≡ None → (h : Held) → IfSome o (λ y. y.id ≡ h.id)
none_same e h = subst (λ (x : Option Held). IfSome x (λ y. y.id ≡ h.id)) (sym e) tt

pub grants_reserved : (l m n : Maps) (pid i : ℕ) (h : Held) (access : ℕ) → m ≡ with_reserved l (region_of pid i) i 1 true → Grants m n pid i h access → Grants l n pid i h access
grants_reserved l m n pid i h access is g =
    let f : Grants (with_reserved l (region_of pid i) i 1 true) n pid i h access = subst (λ (x : Maps). Grants x n pid i h access) is g in
    record { processes = f.processes; held = f.held; here = f.here; rights = f.rights }
