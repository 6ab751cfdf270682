-- What members that come or go leave of how often segments are held, and of those that processes share.
use Rattle.std.proofs.Common.{◌≡◌, ◌≢◌, ◌⊎◌, inl, inr, ℕ, ◌+◌, ◌<◌, ◌≤◌, ◌&&◌, ◌==◌, Bool, true, false, cond, Option, Some, None, IsSome, is_some, refl, sym, ap, ◌∙◌, subst, arith}
use Rattle.std.proofs.lemmas.Bool.{and_parts, eqb-true, false≢true}
use Rattle.o2_entries.specs.Tables.{slot_at}
use Rattle.o2_place.specs.declared.seg_id.SegId.{SegId}
use Rattle.o2_regions.specs.declared.held.Cause.TheVariants.{Loaded}
use Rattle.o2_regions.specs.declared.held.Held.{Held}
use Rattle.o2_regions.specs.Maps.{Maps, held_at, holds_of, is_of, more_of}
use Rattle.o2_store.specs.Shelf.{Shelf, Removes, entry_of}
use Rattle.o2_changes.proofs.Keys.{removed_none}
use Rattle.o2_changes.specs.Holding.{Goes, Grants, KeepsHolds, Remains, Sweeps}
use Rattle.o2_changes.proofs.Settling.{Here, Other, pair_is}
use Rattle.o2_segs.specs.Limits.{KeepsLimits, KeepsLimitsBy}
use Rattle.o2_segs.specs.Sharing.{AreHeldAtMost, IsHeldOnly, KeepsShares, ShareOne}
use Rattle.o2_segs.proofs.Limits.{limits_none, limits_refl}
use Rattle.o2_segs.proofs.Sharing.{aged_there, few_more, gone_lived}
use Rattle.o2_huge.specs.Cuts.{Shrinks}
use Rattle.o2_huge.specs.Members.{Brings, Grows, KeepsFew}

-- What is new is one segment at one index.

pub brings_none : (m : Maps) (i : ℕ) (id : SegId) → Brings m m i id
brings_none m i id = record { each = λ q j h e. inr e }

pub brings_then : (l m n : Maps) (i : ℕ) (id : SegId) → Brings l m i id → Brings m n i id → Brings l n i id
brings_then l m n i id a b = record { each = λ q j h e. elim (b.each q j h e) [ inl new ↦ inl new | inr was ↦ a.each q j h was ] }

pub brings_granted : (m n : Maps) (pid i access : ℕ) (h : Held) → Grants m n pid i h access → held_at m pid i ≡ None → Brings m n i h.id
brings_granted m n pid i access h grants none = record { each = λ q j x e. go q j x ((q == pid) && (j == i)) refl (sym (grants.held q j) ∙ e) }
  where
    more : (b : Bool) (x : Held) → cond b None (Some h) ≡ Some x → h ≡ x
    more true x e = absurd (cc)
    more false x e = cc

    go : (q j : ℕ) (x : Held) (b : Bool) → ((q == pid) && (j == i)) ≡ b → cond b (more_of (held_at m pid i) h) (held_at m q j) ≡ Some x → ((j ≡ i) × (x.id ≡ h.id)) ⊎ (held_at m q j ≡ Some x)
    go q j x true is f = inl (eqb-true j i (and_parts (q == pid) (j == i) is).1, sym (ap (λ (y : Held). y.id) (more (h.holds == 0) x (sym (ap (λ (o : Option Held). more_of o h) none) ∙ f))))
    go q j x false is f = inr f

-- How often it is held.

pub few_granted : (m n : Maps) (pid i access : ℕ) (h : Held) → Grants m n pid i h access → held_at m pid i ≡ None → (k : ℕ) → h.holds ≤ k → AreHeldAtMost m k → AreHeldAtMost n k
few_granted m n pid i access h grants none k most few = record { each = λ q j. go q j ((q == pid) && (j == i)) (grants.held q j) }
  where
    more : (b : Bool) → holds_of (cond b None (Some h)) ≤ k
    more true = omega arith
    more false = most

    go : (q j : ℕ) (b : Bool) → held_at n q j ≡ cond b (more_of (held_at m pid i) h) (held_at m q j) → holds_of (held_at n q j) ≤ k
    go q j true e = subst (λ (o : Option Held). holds_of o ≤ k) (sym (e ∙ ap (λ (o : Option Held). more_of o h) none)) (more (h.holds == 0))
    go q j false e = subst (λ (o : Option Held). holds_of o ≤ k) (sym e) (few.each q j)

pub few_same : (m n : Maps) → ((q j : ℕ) → held_at n q j ≡ held_at m q j) → (k : ℕ) → AreHeldAtMost m k → AreHeldAtMost n k
few_same m n same k few = record { each = λ q j. subst (λ (o : Option Held). holds_of o ≤ k) (sym (same q j)) (few.each q j) }

-- nobody holds more than what somebody held
pub few_held : (m : Maps) (pid i k : ℕ) (h : Held) → held_at m pid i ≡ Some h → AreHeldAtMost m k → h.holds ≤ k
few_held m pid i k h there few = subst (λ (o : Option Held). holds_of o ≤ k) there (few.each pid i)

-- A new segment is shared where nobody held anything.

pub brought_shares : (s t : Shelf) (m n : Maps) (i : ℕ) (id : SegId) → KeepsHolds m n → Brings m n i id → (4096 ≤ i → (q : ℕ) → held_at m q i ≡ None) → id.age ≡ s.made
    → ((w : SegId) → w.age < s.made → IsSome (entry_of t w) → IsSome (entry_of s w)) → KeepsShares s m t n s.made
brought_shares s t m n i id holds brings none young lived = record { one = still_one; lived = lived; only = still_only }
  where
    nobody : (q j : ℕ) (h : Held) → 4096 ≤ j → j ≡ i → held_at m q j ≡ Some h → ⊥
    nobody q j h high is e =
        let z : ◌≡◌ {A = Option Held} None (Some h) = sym (none (omega (arith, high, is)) q) ∙ ap (held_at m q) (sym is) ∙ e in
        cc

    pair : (p q j : ℕ) (x y : Held) → 4096 ≤ j → ((j ≡ i) × (x.id ≡ id)) ⊎ (held_at m p j ≡ Some x) → ((j ≡ i) × (y.id ≡ id)) ⊎ (held_at m q j ≡ Some y) → ShareOne m → (x.cause ≡ Loaded → ⊥) → y.id ≡ x.id
    pair p q j x y high (inl a) (inl b) was called = b.1 ∙ sym a.1
    pair p q j x y high (inl a) (inr b) was called = absurd (nobody q j y high a.0 b)
    pair p q j x y high (inr a) (inl b) was called = absurd (nobody p j x high b.0 a)
    pair p q j x y high (inr a) (inr b) was called = was.one p q j x y high a b called

    still_one : ShareOne m → ShareOne n
    still_one was = record { one = λ p q j x y high a b called. pair p q j x y high (brings.each p j x a) (brings.each q j y b) was called }

    elsewhere : (j : ℕ) (w : SegId) → w.age < s.made → IsHeldOnly m j w → (q l : ℕ) (h : Held) → ((l ≡ i) × (h.id ≡ id)) ⊎ (held_at m q l ≡ Some h) → h.id ≡ w → l ≡ j
    elsewhere j w old x q l h (inl a) is = absurd (let e : w.age ≡ s.made = ap (λ (y : SegId). y.age) (sym is ∙ a.1) ∙ young in omega (arith, e, old))
    elsewhere j w old x q l h (inr a) is = x.only q l h a is

    still_only : (j : ℕ) (w : SegId) → 4096 ≤ j → w.age < s.made → IsSome (entry_of t w) → IsHeldOnly m j w → IsHeldOnly n j w
    still_only j w high old alive x = record {
      process = x.process;
      held = x.held;
      there = holds.held x.process j x.held x.there;
      same = x.same;
      only = λ q l h e is. elsewhere j w old x q l h (brings.each q l h e) is;
    }

-- The limits.

pub limits_still : (s : Shelf) (m : Maps) (most : ℕ) → KeepsLimitsBy s m s m most 1
limits_still s m most = (let x = limits_none s m in record { size = refl; count = refl; made = omega arith; grows = omega arith; few = x.few; shares = x.shares })

pub limits_kept : (s : Shelf) (m : Maps) (most : ℕ) → KeepsLimits s m s m most
limits_kept s m most = (let x = limits_refl s m in record { size = refl; count = refl; made = omega arith; grows = omega arith; few = x.few; shares = x.shares })

pub limits_grown : (s t : Shelf) (m n : Maps) (count times most : ℕ) → Grows s t m n count times → count ≤ most → KeepsFew m n 1 → KeepsShares s m t n s.made → KeepsLimits s m t n most
limits_grown s t m n count times most grows enough few shares = record {
  size = grows.size;
  count = grows.most;
  made = (let a = grows.made in omega (arith, a, enough));
  grows = (let a = grows.made in omega (arith, a));
  few = λ k some was. few_more n k (k + 0) (omega arith) (few k some was);
  shares = shares;
}

pub limits_shrunk : (s t : Shelf) (m n : Maps) (most : ℕ) → Shrinks s t m n → KeepsLimits s m t n most
limits_shrunk s t m n most shrinks = record {
  size = shrinks.size;
  count = shrinks.most;
  made = (let a = shrinks.made in omega (arith, a));
  grows = (let a = shrinks.made in omega (arith, a));
  few = λ k some was. few_more n k (k + 0) (omega arith) (shrinks.few k was);
  shares = shrinks.shares;
}

-- All holds of one process at one index go.

module _ (s t : Shelf) (m n : Maps) (pid i : ℕ) (h : Held) (here : held_at m pid i ≡ Some h) (sweeps : Sweeps s t n h.id) (others : (q j : ℕ) → (q ≡ pid → j ≢ i) → held_at n q j ≡ held_at m q j) (gone : held_at n pid i ≡ None) where
  was : (q j : ℕ) (x : Held) → held_at n q j ≡ Some x → held_at m q j ≡ Some x
  was q j x e = elim (pair_is q j pid i) [
    | Other apart _ ↦ sym (others q j apart) ∙ e
    | Here a b _ ↦ absurd (let z : ◌≡◌ {A = Option Held} None (Some x) = sym gone ∙ ap (λ (p : ℕ). held_at n p i) (sym a) ∙ ap (held_at n q) (sym b) ∙ e in cc)
  ]

  pub lost_few : (k : ℕ) → AreHeldAtMost m k → AreHeldAtMost n k
  lost_few k few = record { each = λ q j. go q j (held_at n q j) refl }
    where
      go : (q j : ℕ) (o : Option Held) → held_at n q j ≡ o → holds_of o ≤ k
      go q j None e = omega arith
      go q j (Some x) e = subst (λ (o : Option Held). holds_of o ≤ k) (was q j x e) (few.each q j)

  -- what is gone doesn't live
  dead : (w : SegId) → w.key ≡ h.id.key → Removes s t h.id.key → IsSome (entry_of t w) → ⊥
  dead w is removes alive =
      let a : slot_at t.entries w.key ≡ None = ap (slot_at t.entries) is ∙ removed_none s t h.id.key removes in
      false≢true (sym (ap is_some a) ∙ aged_there w.age (slot_at t.entries w.key) alive)

  it_is : (o : Option Held) → is_of h.id o ≡ true → (x : Held) × ((o ≡ Some x) × (x.id ≡ h.id))
  it_is None e = absurd (false≢true e)
  it_is (Some x) e =
      let a = and_parts (x.id.key == h.id.key) (x.id.age == h.id.age) e in
      (x, (refl, ap (λ (k : ℕ). let y : SegId = record { key = k; age = x.id.age } in y) (eqb-true x.id.key h.id.key a.0) ∙ ap (λ (k : ℕ). let y : SegId = record { key = h.id.key; age = k } in y) (eqb-true x.id.age h.id.age a.1)))

  lives : (w : SegId) → Sweeps s t n h.id → IsSome (entry_of t w) → IsSome (entry_of s w)
  lives w (Goes none removes) alive = gone_lived s t h.id.key removes w alive
  lives w (Remains q j held same) alive = subst (λ (x : Shelf). IsSome (entry_of x w)) same alive

  still_only : (j : ℕ) (w : SegId) → IsSome (entry_of t w) → IsHeldOnly m j w → IsHeldOnly n j w
  still_only j w alive x = elim (pair_is x.process j pid i) [
    | Other apart _ ↦ record { process = x.process; held = x.held; there = others x.process j apart ∙ x.there; same = x.same; only = alone }
    | Here a b _ ↦
        (let z : Some h ≡ Some x.held = sym here ∙ ap (λ (p : ℕ). held_at m p i) (sym a) ∙ ap (held_at m x.process) (sym b) ∙ x.there in
        let is : h ≡ x.held = cc in
        held_by_it (ap (λ (y : Held). y.id) is ∙ x.same) sweeps)
  ]
    where
      alone : (q l : ℕ) (k : Held) → held_at n q l ≡ Some k → k.id ≡ w → l ≡ j
      alone q l k e is = x.only q l k (was q l k e) is

      held_by_it : h.id ≡ w → Sweeps s t n h.id → IsHeldOnly n j w
      held_by_it is (Goes none removes) = absurd (dead w (ap (λ (y : SegId). y.key) (sym is)) removes alive)
      held_by_it is (Remains q l held same) =
          (let y = it_is (held_at n q l) held in
          let there : l ≡ j = alone q l y.0 y.1.0 (y.1.1 ∙ is) in
          record { process = q; held = y.0; there = ap (held_at n q) (sym there) ∙ y.1.0; same = y.1.1 ∙ is; only = alone })

  pub lost_shares : KeepsShares s m t n s.made
  lost_shares = record {
    one = λ a. record { one = λ p q j x y high e f called. a.one p q j x y high (was p j x e) (was q j y f) called };
    lived = λ w old alive. lives w sweeps alive;
    only = λ j w high old alive x. still_only j w alive x;
  }
