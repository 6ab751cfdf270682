-- What a process gets of another, over a store.
use Rattle.std.proofs.Common.{◌≡◌, ℕ, suc, ◌+◌, ◌-◌, ◌<◌, ◌≤◌, ◌==◌, ◌&&◌, nat_lt, Bool, true, false, cond, List, [], ◌∷◌, Option, Some, None, ap, sym, ◌∙◌, refl, arith}
use Rattle.std.specs.Prelude.{find}
use Rattle.std.proofs.lemmas.Bool.{and_parts, cond-false, eqb-true}
use Rattle.std.proofs.lemmas.Bool.Decides.{nat_tests}
use Rattle.o2_place.specs.declared.seg_id.SegId.{SegId}
use Rattle.o2_regions.specs.declared.held.Cause.TheVariants.{Loaded}
use Rattle.o2_regions.specs.declared.held.Held.{Held}
use Rattle.o2_regions.specs.declared.held.Region.TheVariants.{Private, Shared}
use Rattle.o2_regions.specs.Maps.{Maps, held_at, holds_of, more_of, region_of}
use Rattle.o2_store.specs.Shelf.{Shelf}
use Rattle.o2_changes.specs.Holding.{Grants}
use Rattle.o2_segs.specs.Limits.{KeepsLimitsBy}
use Rattle.o2_segs.specs.Sharing.{AreHeldAtMost, IsHeldOnly, ShareOne}
use Rattle.o2_world.specs.Rulings.{indexes}
use Rattle.o2_shared.specs.declared.names.Name.{Name}
use Rattle.o2_shared.specs.Shares.{StillHolds, share_of}
use Rattle.o2_shared.specs.Texts.{AreInPlace}
use Rattle.o2_shared.specs.Frames.{SharesOnce}
use Rattle.o2_segs.proofs.Limits.{limits_none}
use Rattle.o2_changes.specs.Order.{IsInOrder}
use Rattle.o2_changes.proofs.Framing.{order_refl}

-- Each process has a shared index in the shared region.

pub shared_region : (pid i : ℕ) → 4096 ≤ i → region_of pid i ≡ Shared
shared_region pid i high = cond-false (nat_lt i 4096) (Private pid) Shared (above i high)
  where
    above : (i : ℕ) → 4096 ≤ i → nat_lt i 4096 ≡ false
    above i high = grind (arith, nat_tests)

-- who holds something behind a hold more holds the same there as before, or gets it
share_either : (m n : Maps) (from to i access q j : ℕ) (h x : Held) → held_at m from i ≡ Some h → (h.cause ≡ Loaded → ⊥) → Grants m n to i (share_of h) access → held_at n q j ≡ Some x
    → (k : ℕ) × ((y : Held) × (held_at m k j ≡ Some y) × (y.id ≡ x.id) × (y.cause ≡ Loaded → x.cause ≡ Loaded))
share_either m n from to i access q j h x at called grants e = go ((q == to) && (j == i)) refl (sym (grants.held q j) ∙ e)
  where
    more : (o : Option Held) → held_at m to i ≡ o → more_of o (share_of h) ≡ Some x → j ≡ i → (k : ℕ) × ((y : Held) × (held_at m k j ≡ Some y) × (y.id ≡ x.id) × (y.cause ≡ Loaded → x.cause ≡ Loaded))
    more None is f same = (from, (h, ap (held_at m from) same ∙ at, let z : share_of h ≡ x = cc in ap (λ (y : Held). y.id) z, λ c. absurd (called c)))
    more (Some was) is f same = (let z : record was { holds = was.holds + 1 } ≡ x = cc in (to, (was, ap (held_at m to) same ∙ is, ap (λ (y : Held). y.id) z, λ c. sym (ap (λ (y : Held). y.cause) z) ∙ c)))

    go : (b : Bool) → ((q == to) && (j == i)) ≡ b → cond b (more_of (held_at m to i) (share_of h)) (held_at m q j) ≡ Some x → (k : ℕ) × ((y : Held) × (held_at m k j ≡ Some y) × (y.id ≡ x.id) × (y.cause ≡ Loaded → x.cause ≡ Loaded))
    go true is f = more (held_at m to i) refl f (eqb-true j i (and_parts (q == to) (j == i) is).1)
    go false is f = (q, (x, f, refl, λ c. c))

-- and who held something holds it still
share_still : (m n : Maps) (to i access q j : ℕ) (h y : Held) → Grants m n to i (share_of h) access → held_at m q j ≡ Some y → (x : Held) × (held_at n q j ≡ Some x) × (x.id ≡ y.id) × (y.holds ≤ x.holds)
share_still m n to i access q j h y grants e = go ((q == to) && (j == i)) refl (grants.held q j)
  where
    go : (b : Bool) → ((q == to) && (j == i)) ≡ b → held_at n q j ≡ cond b (more_of (held_at m to i) (share_of h)) (held_at m q j) → (x : Held) × (held_at n q j ≡ Some x) × (x.id ≡ y.id) × (y.holds ≤ x.holds)
    go true is f =
        let a = and_parts (q == to) (j == i) is in
        let there : held_at m to i ≡ Some y = sym (ap (λ (k : ℕ). held_at m k j) (eqb-true q to a.0) ∙ ap (held_at m to) (eqb-true j i a.1)) ∙ e in
        (record y { holds = y.holds + 1 }, f ∙ ap (λ (o : Option Held). more_of o (share_of h)) there, refl, omega arith)
    go false is f = (y, f ∙ e, refl, omega arith)

pub still_shared : (m n : Maps) (to i access : ℕ) (h : Held) → Grants m n to i (share_of h) access → StillHolds m n
still_shared m n to i access h grants = record { held = λ q j y e. share_still m n to i access q j h y grants e; rights = grants.rights }

pub still_refl : (m : Maps) → StillHolds m m
still_refl m = record { held = λ q j h e. (h, e, refl, omega arith); rights = λ q j some. refl }

-- A process holds once more what another one holds, by a call.
module _ (s : Shelf) (m n : Maps) (from to i access : ℕ) (h : Held) (at : held_at m from i ≡ Some h) (called : h.cause ≡ Loaded → ⊥) (grants : Grants m n to i (share_of h) access) where
  share_one : ShareOne m → ShareOne n
  share_one w = record {
    one = λ p q j x y high a b by_call.
        (let c = share_either m n from to i access p j h x at called grants a in
        let d = share_either m n from to i access q j h y at called grants b in
        sym d.1.2 ∙ w.one c.0 d.0 j c.1.0 d.1.0 high c.1.1 d.1.1 (λ e. by_call (c.1.3 e)) ∙ c.1.2);
  }

  share_only : (j : ℕ) (id : SegId) → IsHeldOnly m j id → IsHeldOnly n j id
  share_only j id was =
      let still = share_still m n to i access was.process j h was.held grants was.there in
      record {
        process = was.process;
        held = still.0;
        there = still.1;
        same = still.2 ∙ was.same;
        only = λ q l x e same. (let b = share_either m n from to i access q l h x at called grants e in was.only b.0 l b.1.0 b.1.1 (b.1.2 ∙ same));
      }

  share_few : (k : ℕ) → 1 ≤ k → AreHeldAtMost m k → AreHeldAtMost n (k + 1)
  share_few k some most = record { each = λ q j. go q j ((q == to) && (j == i)) (grants.held q j) }
    where
      more : (o : Option Held) → holds_of o ≤ k → holds_of (more_of o (share_of h)) ≤ k + 1
      more None l = omega (arith, some)
      more (Some was) l = omega (arith, l)

      go : (q j : ℕ) (b : Bool) → held_at n q j ≡ cond b (more_of (held_at m to i) (share_of h)) (held_at m q j) → holds_of (held_at n q j) ≤ k + 1
      go q j true e = (let a : holds_of (held_at n q j) ≡ holds_of (more_of (held_at m to i) (share_of h)) = ap holds_of e in let b = more (held_at m to i) (most.each to i) in omega (arith, a, b))
      go q j false e = (let a : holds_of (held_at n q j) ≡ holds_of (held_at m q j) = ap holds_of e in let b = most.each q j in omega (arith, a, b))

  pub share_limits : KeepsLimitsBy s m s n 0 1
  share_limits = record {
    size = refl;
    count = refl;
    made = omega arith;
    grows = omega arith;
    few = share_few;
    shares = record { one = share_one; lived = λ id old alive. alive; only = λ j id high old alive was. share_only j id was };
  }

  -- each named segment is held where it was
  pub share_places : (names : List (Option Name)) → AreInPlace s m names → AreInPlace s n names
  share_places names places = record { held = λ place k named. share_only (4096 + place) k.id (places.held place k named); once = places.once; older = places.older }

-- The first process that holds an index.

-- so many numbers from one on, where the first one fails
pub next_from : (f : ℕ → Bool) (a b : ℕ) → a < b → f a ≡ false → find f (indexes a (b - a)) ≡ find f (indexes (a + 1) (b - (a + 1)))
next_from f a b l e = ap (λ (n : ℕ). find f (indexes a n)) (let n : b - a ≡ suc (b - (a + 1)) = omega arith in n) ∙ cond-false (f a) (Some a) (find f (indexes (a + 1) (b - (a + 1)))) e

pub find_same : (f g : ℕ → Bool) (ns : List ℕ) → ((n : ℕ) → f n ≡ g n) → find f ns ≡ find g ns
find_same f g [] e = refl
find_same f g (n ∷ ns) e = ap (λ (b : Bool). cond b (Some n) (find f ns)) (e n) ∙ ap (λ (o : Option ℕ). cond (g n) (Some n) o) (find_same f g ns e)

-- nothing is shared
pub shares_none : (s : Shelf) (m : Maps) → IsInOrder s m → SharesOnce s m s m
shares_none s m order = record {
  still = still_refl m;
  limits = limits_none s m;
  places = λ names a. a;
  processes = refl;
  goes_on = order_refl s m order;
}
