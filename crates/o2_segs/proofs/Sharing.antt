-- What single changes leave of the segments that processes share.
use Rattle.std.proofs.Common.{◌≡◌, ◌≢◌, ◌⊎◌, inl, inr, ℕ, ◌+◌, ◌-◌, ◌/◌, ◌<◌, ◌≤◌, ◌&&◌, ◌||◌, ◌==◌, Bool, true, false, cond, eqb, nat_le, nat_lt, List, length, set}
use Rattle.std.proofs.Common.{Option, Some, None, IsSome, is_some, ap, refl, sym, ◌∙◌, subst, arith}
use Rattle.std.proofs.lemmas.Bool.{and_from, and_parts, cases_eq, cases_lt, cond-false, cond-true, eq-eqb, eqb-true, ne_eqb, or_parts}
use Rattle.std.proofs.lemmas.Bool.Decides.{nat_tests}
use Rattle.std.proofs.lemmas.List.{length-set}
use Rattle.o2_desc.specs.Choice.{IsRun}
use Rattle.o2_entries.specs.declared.Entry.{Entry}
use Rattle.o2_entries.specs.Tables.{slot_at}
use Rattle.o2_place.specs.declared.seg_id.SegId.{SegId}
use Rattle.o2_regions.specs.declared.held.Held.{Held}
use Rattle.o2_regions.specs.declared.held.Region.{Region}
use Rattle.o2_regions.specs.declared.held.Region.TheVariants.{Private, Shared}
use Rattle.o2_regions.specs.declared.held.Cause.TheVariants.{Loaded}
use Rattle.o2_regions.specs.Kept.{AreKept}
use Rattle.o2_regions.specs.Maps.{Maps, end_of, first_of, held_at, holds_of, is_held, is_of, is_reserved, is_taken, less_of, more_of, region_of}
use Rattle.o2_service.specs.Told.{OnlyTables}
use Rattle.o2_store.specs.Shelf.{Adds, Removes, SameTables, Shelf, aged, entry_of, entry_or}
use Rattle.o2_store.proofs.Tables.{slot-past, slot-set_other, slot-set_same}
use Rattle.o2_changes.specs.Holding.{Goes, Grants, IsUnheld, Remains, Sweeps, Takes}
use Rattle.o2_segs.proofs.Selecting.{under, under_held}
use Rattle.o2_segs.specs.Sharing.{AreHeldAtMost, IsHeldLow, IsHeldOnly, KeepsShares, ShareOne}

-- What lives.

alive_aged : (a : ℕ) (o p : Option Entry) → is_some p ≡ is_some o → (entry_or p).age ≡ (entry_or o).age → IsSome (aged a p) → IsSome (aged a o)
alive_aged a None None live age alive = alive
alive_aged a None (Some e) live age alive = let z : true ≡ false = live in absurd (cc)
alive_aged a (Some x) None live age alive = let z : false ≡ true = alive in absurd (cc)
alive_aged a (Some x) (Some e) live age alive = pick (eqb e.age a) (eqb x.age a) (ap (λ (k : ℕ). eqb k a) age) alive
  where
    pick : (b c : Bool) → b ≡ c → IsSome (cond b (Some e) None) → IsSome (cond c (Some x) None)
    pick true true is alive = refl
    pick true false is alive = absurd (cc)
    pick false c is alive = absurd (let z : false ≡ true = alive in cc)

pub lived_tables : (s t : Shelf) → SameTables s t → (id : SegId) → IsSome (entry_of t id) → IsSome (entry_of s id)
lived_tables s t tables id alive = alive_aged id.age (slot_at s.entries id.key) (slot_at t.entries id.key) (tables.same id.key).live (tables.same id.key).age alive

-- and lives on
pub alive_tables : (s t : Shelf) → SameTables s t → (id : SegId) → IsSome (entry_of s id) → IsSome (entry_of t id)
alive_tables s t tables id alive = alive_aged id.age (slot_at t.entries id.key) (slot_at s.entries id.key) (sym (tables.same id.key).live) (sym (tables.same id.key).age) alive

-- where all numbers but one keep their entries, and the segment of that one its age
pub lived_but : (s t : Shelf) (key : ℕ) → ((k : ℕ) → k ≢ key → (is_some (slot_at t.entries k) ≡ is_some (slot_at s.entries k)) × ((entry_or (slot_at t.entries k)).age ≡ (entry_or (slot_at s.entries k)).age))
    → is_some (slot_at t.entries key) ≡ is_some (slot_at s.entries key) → (entry_or (slot_at t.entries key)).age ≡ (entry_or (slot_at s.entries key)).age → (id : SegId) → IsSome (entry_of t id) → IsSome (entry_of s id)
lived_but s t key others live age id alive = go (cases_eq id.key key)
  where
    go : ((id.key ≡ key) ⊎ (id.key ≡ key → ⊥)) → IsSome (entry_of s id)
    go (inl is) = alive_aged id.age (slot_at s.entries id.key) (slot_at t.entries id.key)
        (subst (λ (k : ℕ). is_some (slot_at t.entries k) ≡ is_some (slot_at s.entries k)) (sym is) live)
        (subst (λ (k : ℕ). (entry_or (slot_at t.entries k)).age ≡ (entry_or (slot_at s.entries k)).age) (sym is) age) alive
    go (inr isnt) = alive_aged id.age (slot_at s.entries id.key) (slot_at t.entries id.key) (others id.key isnt).0 (others id.key isnt).1 alive

pub aged_there : (a : ℕ) (o : Option Entry) → IsSome (aged a o) → is_some o ≡ true
aged_there a None alive = alive
aged_there a (Some e) alive = refl

-- what is gone doesn't live
slot_none : (es : List (Option Entry)) (k : ℕ) → slot_at (set es k None) k ≡ None
slot_none es k = elim (cases_lt k (length es)) [
  | inl w ↦ slot-set_same es k None w
  | inr past ↦ slot-past (set es k None) k (let e = length-set es k None in omega (arith, e, past))
]

gone_dead : (s t : Shelf) (key : ℕ) → Removes s t key → (id : SegId) → id.key ≡ key → IsSome (entry_of t id) → ⊥
gone_dead s t key removes id is alive =
    let a : slot_at t.entries id.key ≡ None = ap (slot_at t.entries) is ∙ ap (λ (x : Shelf). slot_at x.entries key) removes.shelf ∙ slot_none s.entries key in
    let z : false ≡ true = sym (ap (λ (o : Option Entry). is_some (aged id.age o)) a) ∙ alive in
    cc

pub gone_lived : (s t : Shelf) (key : ℕ) → Removes s t key → (id : SegId) → IsSome (entry_of t id) → IsSome (entry_of s id)
gone_lived s t key removes id alive = go (cases_eq id.key key)
  where
    go : (id.key ≡ key) ⊎ (id.key ≡ key → ⊥) → IsSome (entry_of s id)
    go (inl is) = absurd (gone_dead s t key removes id is alive)
    go (inr isnt) = subst (λ (o : Option Entry). IsSome (aged id.age o)) (removes.entries id.key isnt) alive

-- a new segment is no older one
pub added_lived : (s t : Shelf) (id : SegId) (e : Entry) → Adds s t id e → e.age ≡ s.made → (k : SegId) → k.age < s.made → IsSome (entry_of t k) → IsSome (entry_of s k)
added_lived s t id e adds made k older alive = go (cases_eq k.key id.key) (subst (λ (x : Shelf). IsSome (entry_of x k)) adds.shelf alive)
  where
    young : is_some (aged k.age (Some e)) ≡ false
    young = ap is_some (cond-false (eqb e.age k.age) (Some e) None (ne_eqb e.age k.age (λ is. omega (arith, is, made, older))))

    go : (k.key ≡ id.key) ⊎ (k.key ≡ id.key → ⊥) → IsSome (aged k.age (slot_at (set s.entries id.key (Some e)) k.key)) → IsSome (entry_of s k)
    go (inl is) there =
        let a : slot_at (set s.entries id.key (Some e)) k.key ≡ Some e = ap (slot_at (set s.entries id.key (Some e))) is ∙ slot-set_same s.entries id.key (Some e) adds.within in
        let z : false ≡ true = sym young ∙ sym (ap (λ (o : Option Entry). is_some (aged k.age o)) a) ∙ there in
        absurd (cc)
    go (inr isnt) there = subst (λ (o : Option Entry). IsSome (aged k.age o)) (slot-set_other s.entries id.key k.key (Some e) isnt) there

-- What is held, where nothing has changed in it.

pub held_told : (m n : Maps) → OnlyTables m n → (q j : ℕ) → held_at n q j ≡ held_at m q j
held_told m n only q j = ap (λ (x : Maps). held_at x q j) only.rest

-- The same is held everywhere.
module _ (m n : Maps) (same : (q j : ℕ) → held_at n q j ≡ held_at m q j) where
  pub one_as : ShareOne m → ShareOne n
  one_as x = record { one = λ p q i h k high a b called. x.one p q i h k high (sym (same p i) ∙ a) (sym (same q i) ∙ b) called }

  pub few_as : (k : ℕ) → AreHeldAtMost m k → AreHeldAtMost n (k + 0)
  few_as k x = record {
    each = λ p i.
        (let a : holds_of (held_at n p i) ≡ holds_of (held_at m p i) = ap holds_of (same p i) in
        let b = x.each p i in
        omega (arith, a, b));
  }

  only_as : (i : ℕ) (id : SegId) → IsHeldOnly m i id → IsHeldOnly n i id
  only_as i id x = record {
    process = x.process;
    held = x.held;
    there = same x.process i ∙ x.there;
    same = x.same;
    only = λ q j h e is. x.only q j h (sym (same q j) ∙ e) is;
  }

  pub shares_as : (s t : Shelf) (older : ℕ) → ((id : SegId) → id.age < older → IsSome (entry_of t id) → IsSome (entry_of s id)) → KeepsShares s m t n older
  shares_as s t older lived = record { one = one_as; lived = lived; only = λ i id high old alive held. only_as i id held }

pub shares_refl : (s : Shelf) (m : Maps) (older : ℕ) → KeepsShares s m s m older
shares_refl s m older = shares_as m m (λ q j. refl) s s older (λ id old alive. alive)

pub shares_then : (s t u : Shelf) (m n o : Maps) (a b c : ℕ) → c ≤ a → c ≤ b → KeepsShares s m t n a → KeepsShares t n u o b → KeepsShares s m u o c
shares_then s t u m n o a b c below under x y = record {
  one = λ w. y.one (x.one w);
  lived = λ id old alive. x.lived id (omega (arith, old, below)) (y.lived id (omega (arith, old, under)) alive);
  only = λ i id high old alive held. y.only i id high (omega (arith, old, under)) alive (x.only i id high (omega (arith, old, below)) (y.lived id (omega (arith, old, under)) alive) held);
}

pub few_more : (m : Maps) (a b : ℕ) → a ≤ b → AreHeldAtMost m a → AreHeldAtMost m b
few_more m a b more x = record { each = λ p i. (let c = x.each p i in omega (arith, c, more)) }

pub few_then : (m n o : Maps) → ((k : ℕ) → 1 ≤ k → AreHeldAtMost m k → AreHeldAtMost n (k + 0)) → ((k : ℕ) → 1 ≤ k → AreHeldAtMost n k → AreHeldAtMost o (k + 0)) → (k : ℕ) → 1 ≤ k → AreHeldAtMost m k → AreHeldAtMost o (k + 0)
few_then m n o x y k some most = y k some (subst (AreHeldAtMost n) (omega arith) (x k some most))

-- What is new: nothing was held there, and it is no segment that is held at a shared index alone.
pub record IsNewHold (m : Maps) (pid i : ℕ) (id : SegId) : Type 0 where
  pub none : held_at m pid i ≡ None
  pub nobody : 4096 ≤ i → (q : ℕ) → held_at m q i ≡ None
  pub apart : (j : ℕ) → 4096 ≤ j → IsHeldOnly m j id → ⊥

-- A process holds a segment anew.
module _ (s : Shelf) (m n : Maps) (pid i access : ℕ) (h : Held) (once : h.holds ≡ 1) (is_new : IsNewHold m pid i h.id) (grants : Grants m n pid i h access) where
  here : more_of (held_at m pid i) h ≡ Some h
  here =
      ap (λ (o : Option Held). more_of o h) is_new.none
      ∙ cond-false (eqb h.holds 0) None (Some h) (ne_eqb h.holds 0 (λ e. (let z : 1 ≡ 0 = sym once ∙ e in omega (arith, z))))

  either : (q j : ℕ) (x : Held) → held_at n q j ≡ Some x → ((q ≡ pid) × (j ≡ i) × (h ≡ x)) ⊎ (held_at m q j ≡ Some x)
  either q j x e = go ((q == pid) && (j == i)) refl (sym (grants.held q j) ∙ e)
    where
      go : (b : Bool) → ((q == pid) && (j == i)) ≡ b → cond b (more_of (held_at m pid i) h) (held_at m q j) ≡ Some x → ((q ≡ pid) × (j ≡ i) × (h ≡ x)) ⊎ (held_at m q j ≡ Some x)
      go true is f =
          let a = and_parts (q == pid) (j == i) is in
          let z : Some h ≡ Some x = sym here ∙ f in
          inl (eqb-true q pid a.0, eqb-true j i a.1, let y : h ≡ x = cc in y)
      go false is f = inr f

  still : (q j : ℕ) (x : Held) → held_at m q j ≡ Some x → held_at n q j ≡ Some x
  still q j x e = go ((q == pid) && (j == i)) refl (grants.held q j)
    where
      go : (b : Bool) → ((q == pid) && (j == i)) ≡ b → held_at n q j ≡ cond b (more_of (held_at m pid i) h) (held_at m q j) → held_at n q j ≡ Some x
      go true is f =
          let a = and_parts (q == pid) (j == i) is in
          let z : ◌≡◌ {A = Option Held} None (Some x) = sym is_new.none ∙ ap (λ (k : ℕ). held_at m k i) (sym (eqb-true q pid a.0)) ∙ ap (held_at m q) (sym (eqb-true j i a.1)) ∙ e in
          absurd (cc)
      go false is f = f ∙ e

  held_one : ShareOne m → ShareOne n
  held_one w = record { one = λ p q j x y high a b called. go p q j x y high (either p j x a) (either q j y b) called }
    where
      nobody : (q j : ℕ) (y : Held) → 4096 ≤ j → j ≡ i → held_at m q j ≡ Some y → ⊥
      nobody q j y high is e =
          let z : ◌≡◌ {A = Option Held} None (Some y) = sym (is_new.nobody (omega (arith, high, is)) q) ∙ ap (held_at m q) (sym is) ∙ e in
          cc

      go : (p q j : ℕ) (x y : Held) → 4096 ≤ j → ((p ≡ pid) × (j ≡ i) × (h ≡ x)) ⊎ (held_at m p j ≡ Some x) → ((q ≡ pid) × (j ≡ i) × (h ≡ y)) ⊎ (held_at m q j ≡ Some y) → (x.cause ≡ Loaded → ⊥) → y.id ≡ x.id
      go p q j x y high (inl a) (inl b) called = ap (λ (k : Held). k.id) (sym b.2 ∙ a.2)
      go p q j x y high (inl a) (inr b) called = absurd (nobody q j y high a.1 b)
      go p q j x y high (inr a) (inl b) called = absurd (nobody p j x high b.1 a)
      go p q j x y high (inr a) (inr b) called = w.one p q j x y high a b called

  held_only : (j : ℕ) (id : SegId) → 4096 ≤ j → IsHeldOnly m j id → IsHeldOnly n j id
  held_only j id high x = record {
    process = x.process;
    held = x.held;
    there = still x.process j x.held x.there;
    same = x.same;
    only = λ q l k e is. go q l k (either q l k e) is;
  }
    where
      go : (q l : ℕ) (k : Held) → ((q ≡ pid) × (l ≡ i) × (h ≡ k)) ⊎ (held_at m q l ≡ Some k) → k.id ≡ id → l ≡ j
      go q l k (inl a) is = absurd (is_new.apart j high (subst (IsHeldOnly m j) (sym (ap (λ (x : Held). x.id) a.2 ∙ is)) x))
      go q l k (inr a) is = x.only q l k a is

  pub held_few : (k : ℕ) → 1 ≤ k → AreHeldAtMost m k → AreHeldAtMost n (k + 0)
  held_few k some most = record { each = λ q j. go q j ((q == pid) && (j == i)) (grants.held q j) }
    where
      go : (q j : ℕ) (b : Bool) → held_at n q j ≡ cond b (more_of (held_at m pid i) h) (held_at m q j) → holds_of (held_at n q j) ≤ k + 0
      go q j true e = (let a : holds_of (held_at n q j) ≡ h.holds = ap holds_of (e ∙ here) in omega (arith, a, once, some))
      go q j false e = (let a : holds_of (held_at n q j) ≡ holds_of (held_at m q j) = ap holds_of e in let b = most.each q j in omega (arith, a, b))

  pub held_shares : KeepsShares s m s n s.made
  held_shares = record { one = held_one; lived = λ id old alive. alive; only = λ j id high old alive x. held_only j id high x }

-- A hold goes, and what nobody holds any more.
module _ (s t : Shelf) (m n : Maps) (id : SegId) (pid i : ℕ) (h : Held) (at : held_at m pid i ≡ Some h) (this : h.id ≡ id) (sweeps : Sweeps s t n id) (takes : Takes m n pid i) where
  -- what is held was held, no less often
  was_held : (q j : ℕ) (x : Held) → held_at n q j ≡ Some x → (y : Held) × (held_at m q j ≡ Some y) × (y.id ≡ x.id) × (y.cause ≡ x.cause) × (x.holds ≤ y.holds)
  was_held q j x e = go ((q == pid) && (j == i)) refl (sym (takes.held q j) ∙ e)
    where
      less : (o : Option Held) → less_of o ≡ Some x → (y : Held) × (o ≡ Some y) × (y.id ≡ x.id) × (y.cause ≡ x.cause) × (x.holds ≤ y.holds)
      less None f = absurd (cc)
      less (Some y) f = by_count (y.holds - 1 == 0) f
        where
          by_count : (b : Bool) → cond b None (Some (record y { holds = y.holds - 1 })) ≡ Some x → (z : Held) × (Some y ≡ Some z) × (z.id ≡ x.id) × (z.cause ≡ x.cause) × (x.holds ≤ z.holds)
          by_count true f = absurd (cc)
          by_count false f =
              let same : record y { holds = y.holds - 1 } ≡ x = cc in
              let c : y.holds - 1 ≡ x.holds = ap (λ (z : Held). z.holds) same in
              (y, refl, ap (λ (z : Held). z.id) same, ap (λ (z : Held). z.cause) same, omega (arith, c))

      go : (b : Bool) → ((q == pid) && (j == i)) ≡ b → cond b (less_of (held_at m pid i)) (held_at m q j) ≡ Some x → (y : Held) × (held_at m q j ≡ Some y) × (y.id ≡ x.id) × (y.cause ≡ x.cause) × (x.holds ≤ y.holds)
      go true is f =
          let a = and_parts (q == pid) (j == i) is in
          let b = less (held_at m pid i) f in
          (b.0, ap (λ (k : ℕ). held_at m k j) (eqb-true q pid a.0) ∙ ap (held_at m pid) (eqb-true j i a.1) ∙ b.1, b.2, b.3, b.4)
      go false is f = (x, f, refl, refl, omega arith)

  less_one : ShareOne m → ShareOne n
  less_one w = record {
    one = λ p q j x y high a b called.
        (let c = was_held p j x a in
        let d = was_held q j y b in
        sym d.2 ∙ w.one p q j c.0 d.0 high c.1 d.1 (λ e. called (sym c.3 ∙ e)) ∙ c.2);
  }

  pub less_few : (k : ℕ) → 1 ≤ k → AreHeldAtMost m k → AreHeldAtMost n (k + 0)
  less_few k some most = record { each = λ q j. go q j (held_at n q j) refl }
    where
      go : (q j : ℕ) (o : Option Held) → held_at n q j ≡ o → holds_of o ≤ k + 0
      go q j None e = omega arith
      go q j (Some x) e =
          let a = was_held q j x e in
          let b : holds_of (held_at m q j) ≡ a.0.holds = ap holds_of a.1 in
          let c = most.each q j in
          let d = a.4 in
          omega (arith, b, c, d)

  -- who held another segment holds it still
  other_held : (q j : ℕ) (x : Held) → held_at m q j ≡ Some x → (x.id ≡ id → ⊥) → held_at n q j ≡ Some x
  other_held q j x e apart = go ((q == pid) && (j == i)) refl (takes.held q j)
    where
      go : (b : Bool) → ((q == pid) && (j == i)) ≡ b → held_at n q j ≡ cond b (less_of (held_at m pid i)) (held_at m q j) → held_at n q j ≡ Some x
      go true is f =
          let a = and_parts (q == pid) (j == i) is in
          let z : Some h ≡ Some x = sym at ∙ ap (λ (k : ℕ). held_at m k i) (sym (eqb-true q pid a.0)) ∙ ap (held_at m q) (sym (eqb-true j i a.1)) ∙ e in
          let y : h ≡ x = cc in
          absurd (apart (ap (λ (k : Held). k.id) (sym y) ∙ this))
      go false is f = f ∙ e

  -- this one is held by somebody as long as it lives
  by_another : (w : SegId) → Sweeps s t n id → IsSome (entry_of t w) → w ≡ id → (q : ℕ) × ((j : ℕ) × (is_of id (held_at n q j) ≡ true))
  by_another w (Goes none removes) alive is = absurd (gone_dead s t id.key removes w (ap (λ (x : SegId). x.key) is) alive)
  by_another w (Remains q j held same) alive is = (q, (j, held))

  it_is : (o : Option Held) → is_of id o ≡ true → (x : Held) × (o ≡ Some x) × (x.id ≡ id)
  it_is None e = absurd (let z : false ≡ true = e in cc)
  it_is (Some x) e =
      let a = and_parts (x.id.key == id.key) (x.id.age == id.age) e in
      (x, refl, (ap (λ (k : ℕ). let y : SegId = record { key = k; age = x.id.age } in y) (eqb-true x.id.key id.key a.0) ∙ ap (λ (k : ℕ). let y : SegId = record { key = id.key; age = k } in y) (eqb-true x.id.age id.age a.1)))

  same_id : (w : SegId) → (w ≡ id) ⊎ (w ≡ id → ⊥)
  same_id w = go (cases_eq w.key id.key) (cases_eq w.age id.age)
    where
      go : (w.key ≡ id.key) ⊎ (w.key ≡ id.key → ⊥) → (w.age ≡ id.age) ⊎ (w.age ≡ id.age → ⊥) → (w ≡ id) ⊎ (w ≡ id → ⊥)
      go (inl a) (inl b) = inl (ap (λ (k : ℕ). let y : SegId = record { key = k; age = w.age } in y) a ∙ ap (λ (k : ℕ). let y : SegId = record { key = id.key; age = k } in y) b)
      go (inr a) b = inr (λ e. a (ap (λ (x : SegId). x.key) e))
      go (inl a) (inr b) = inr (λ e. b (ap (λ (x : SegId). x.age) e))

  less_only : (j : ℕ) (w : SegId) → IsSome (entry_of t w) → IsHeldOnly m j w → IsHeldOnly n j w
  less_only j w alive x = go (same_id w)
    where
      alone : (q l : ℕ) (k : Held) → held_at n q l ≡ Some k → k.id ≡ w → l ≡ j
      alone q l k e is = (let a = was_held q l k e in x.only q l a.0 a.1 (a.2 ∙ is))

      by : (w ≡ id) → (q : ℕ) × ((l : ℕ) × (is_of id (held_at n q l) ≡ true)) → IsHeldOnly n j w
      by is a =
          let b = it_is (held_at n a.0 a.1.0) a.1.1 in
          let there : a.1.0 ≡ j = alone a.0 a.1.0 b.0 b.1 (b.2 ∙ sym is) in
          record { process = a.0; held = b.0; there = ap (held_at n a.0) (sym there) ∙ b.1; same = b.2 ∙ sym is; only = alone }

      go : (w ≡ id) ⊎ (w ≡ id → ⊥) → IsHeldOnly n j w
      go (inl is) = by is (by_another w sweeps alive is)
      go (inr isnt) = record { process = x.process; held = x.held; there = other_held x.process j x.held x.there (λ e. isnt (sym x.same ∙ e)); same = x.same; only = alone }

  less_lived : (w : SegId) → Sweeps s t n id → IsSome (entry_of t w) → IsSome (entry_of s w)
  less_lived w (Goes none removes) alive = gone_lived s t id.key removes w alive
  less_lived w (Remains q j held same) alive = subst (λ (x : Shelf). IsSome (entry_of x w)) same alive

  pub less_shares : KeepsShares s m t n s.made
  less_shares = record { one = less_one; lived = λ w old alive. less_lived w sweeps alive; only = λ j w high old alive x. less_only j w alive x }

-- What isn't held at all is held nowhere alone.
pub unheld_apart : (m : Maps) (id : SegId) → IsUnheld m id → (j : ℕ) → IsHeldOnly m j id → ⊥
unheld_apart m id unheld j x =
    let a : is_of id (Some x.held) ≡ false = sym (ap (is_of id) x.there) ∙ unheld x.process j in
    let b : is_of id (Some x.held) ≡ true =
    and_from (x.held.id.key == id.key) (x.held.id.age == id.age) (eq-eqb x.held.id.key id.key (ap (λ (k : SegId). k.key) x.same)) (eq-eqb x.held.id.age id.age (ap (λ (k : SegId). k.age) x.same))
    in
    let z : false ≡ true = sym a ∙ b in
    cc

pub low_apart : (m : Maps) (id : SegId) → IsHeldLow m id → (j : ℕ) → 4096 ≤ j → IsHeldOnly m j id → ⊥
low_apart m id low j high x = (let a : low.index ≡ j = x.only low.process low.index low.held low.there low.same in let b = low.low in omega (arith, a, b, high))

pub unheld_told : (m n : Maps) (id : SegId) → OnlyTables m n → IsUnheld m id → IsUnheld n id
unheld_told m n id only unheld = λ q j. ap (is_of id) (held_told m n only q j) ∙ unheld q j

-- A free index is held by nobody.
pub free_none : (m : Maps) (pid i : ℕ) → AreKept m → IsRun (is_taken m (region_of pid i)) (first_of (region_of pid i)) (end_of (region_of pid i)) 1 i → held_at m pid i ≡ None
free_none m pid i kept run = go (held_at m pid i) refl
  where
    go : (o : Option Held) → held_at m pid i ≡ o → o ≡ None
    go None e = refl
    go (Some h) e =
        let a : is_reserved m (region_of pid i) i ≡ true = kept.covered pid i h e in
        let b : is_reserved m (region_of pid i) i ≡ false = (or_parts (is_held m (region_of pid i) i) (is_reserved m (region_of pid i) i) (run.2 i (omega arith) (omega arith))).1 in
        let z : false ≡ true = sym b ∙ a in
        absurd (cc)

pub free_nobody : (m : Maps) (pid i : ℕ) → AreKept m → IsRun (is_taken m (region_of pid i)) (first_of (region_of pid i)) (end_of (region_of pid i)) 1 i → 4096 ≤ i → (q : ℕ) → held_at m q i ≡ None
free_nobody m pid i kept run high q = free_none m q i kept (subst (λ (g : Region). IsRun (is_taken m g) (first_of g) (end_of g) 1 i) (shared pid ∙ sym (shared q)) run)
  where
    above : nat_lt i 4096 ≡ false
    above = grind (arith, nat_tests)

    shared : (p : ℕ) → region_of p i ≡ Shared
    shared p = cond-false (nat_lt i 4096) (Private p) Shared above

-- an index of a process's own
pub own_run : (m : Maps) (pid i : ℕ) → IsRun (is_taken m (Private pid)) 1 4096 1 i → IsRun (is_taken m (region_of pid i)) (first_of (region_of pid i)) (end_of (region_of pid i)) 1 i
own_run m pid i run = subst (λ (g : Region). IsRun (is_taken m g) (first_of g) (end_of g) 1 i) (sym (cond-true (nat_lt i 4096) (Private pid) Shared (low run.1))) run
  where
    low : i + 1 ≤ 4096 → nat_lt i 4096 ≡ true
    low l = grind (arith, nat_tests)

-- a new segment at a free index
pub new_made : (m : Maps) (pid i : ℕ) (id : SegId) → AreKept m → IsRun (is_taken m (region_of pid i)) (first_of (region_of pid i)) (end_of (region_of pid i)) 1 i → IsUnheld m id → IsNewHold m pid i id
new_made m pid i id kept run unheld = record { none = free_none m pid i kept run; nobody = free_nobody m pid i kept run; apart = λ j high x. unheld_apart m id unheld j x }

-- a segment of a process's own under an index more
pub new_alias : (m : Maps) (pid i : ℕ) (id : SegId) → AreKept m → IsRun (is_taken m (region_of pid i)) (first_of (region_of pid i)) (end_of (region_of pid i)) 1 i → IsHeldLow m id → IsNewHold m pid i id
new_alias m pid i id kept run low = record { none = free_none m pid i kept run; nobody = free_nobody m pid i kept run; apart = low_apart m id low }

-- what has an alias is held at an index of the process's own
pub low_under : (m : Maps) (pid sel : ℕ) (h : Held) (rest : Bool) → under m pid sel ≡ Some h → (nat_le 4096 (sel / 8) || rest) ≡ false → IsHeldLow m h.id
low_under m pid sel h rest at none = record {
  process = pid;
  index = sel / 8;
  held = h;
  there = (under_held m pid sel h at).1;
  same = refl;
  low = below (sel / 8) (or_parts (nat_le 4096 (sel / 8)) rest none).0;
}
  where
    below : (i : ℕ) → nat_le 4096 i ≡ false → i < 4096
    below i e = grind (arith, nat_tests)
