-- What a hold less leaves.
use Rattle.std.proofs.Common.{◌≡◌, ◌≢◌, ℕ, ◌-◌, ◌<◌, ◌≤◌, ◌&&◌, inl, inr, List, length, Option, Some, None, IsSome, Bool, true, false, cond, eqb, refl, sym, ap, ◌∙◌, subst, arith, get_or, set}
use Rattle.std.proofs.lemmas.Bool.{cases_eq, cases_lt, cond-true, cond-false, eq-eqb, ne_eqb}
use Rattle.std.proofs.lemmas.List.{get_or-set_other, get_or-set_same, get_or_past, length-set}
use Rattle.o2_desc.specs.declared.descriptor.Descriptor.{Descriptor}
use Rattle.o2_desc.specs.Bits.{rights_of}
use Rattle.o2_desc.specs.Bytes.{empty}
use Rattle.o2_place.specs.declared.seg_id.SegId.{SegId}
use Rattle.o2_regions.specs.declared.held.Held.{Held}
use Rattle.o2_regions.specs.Kept.{AreKept}
use Rattle.o2_regions.specs.Maps.{Maps, IsProcess, dropped, emptied, held_at, less_of, table_of}
use Rattle.o2_regions.proofs.AfterCalls.{dropped-processes, held_at-dropped, table_of-dropped}
use Rattle.o2_segbus.specs.Settled.{IsSettledAt, descriptor_at}
use Rattle.o2_store.specs.Shelf.{Shelf, entry_of}
use Rattle.o2_changes.specs.Holding.{Takes, rights_at}
use Rattle.o2_changes.specs.Order.{IsInOrder}
use Rattle.o2_changes.proofs.Settling.{Here, Other, pair_is}

emptied_long : (o : Option Held) (t : List Descriptor) (i : ℕ) → length (emptied o t i) ≡ length t
emptied_long None t i = refl
emptied_long (Some was) t i = go (eqb (was.holds - 1) 0)
  where
    go : (b : Bool) → length (cond b (set t i empty) t) ≡ length t
    go true = length-set t i empty
    go false = refl

emptied_other : (o : Option Held) (t : List Descriptor) (i j : ℕ) → j ≢ i → get_or (emptied o t i) j empty ≡ get_or t j empty
emptied_other None t i j n = refl
emptied_other (Some was) t i j n = go (eqb (was.holds - 1) 0)
  where
    go : (b : Bool) → get_or (cond b (set t i empty) t) j empty ≡ get_or t j empty
    go true = get_or-set_other t i j empty empty n
    go false = refl

set_empty : (t : List Descriptor) (i : ℕ) → get_or (set t i empty) i empty ≡ empty
set_empty t i = elim (cases_lt i (length t)) [
  | inl l ↦ get_or-set_same t i empty empty l
  | inr l ↦ get_or_past (set t i empty) i empty (omega (arith, l, length-set t i empty))
]

-- the descriptor of an index goes on to agree
settled_less : (s : Shelf) (o : Option Held) (t : List Descriptor) (i : ℕ) → IsSettledAt s o (get_or t i empty) → IsSettledAt s (less_of o) (get_or (emptied o t i) i empty)
settled_less s None t i a = a
settled_less s (Some was) t i a = go (eqb (was.holds - 1) 0)
  where
    go : (b : Bool) → IsSettledAt s (cond b None (Some (record was { holds = was.holds - 1 }))) (get_or (cond b (set t i empty) t) i empty)
    go true = set_empty t i
    go false = a

-- what is left keeps its rights
rights_less : (o : Option Held) (t : List Descriptor) (i : ℕ) → IsSome (less_of o) → get_or (emptied o t i) i empty ≡ get_or t i empty
rights_less None t i some = refl
rights_less (Some was) t i some = go (eqb (was.holds - 1) 0) some
  where
    go : (b : Bool) → IsSome (cond b None (Some (record was { holds = was.holds - 1 }))) → get_or (cond b (set t i empty) t) i empty ≡ get_or t i empty
    go true some = absurd (let f : false ≡ true = some in cc)
    go false some = refl

less_is : (o : Option Held) (x : Held) → less_of o ≡ Some x → (w : Held) × (o ≡ Some w) × (x.id ≡ w.id)
less_is None x e = absurd cc
less_is (Some was) x e = go (eqb (was.holds - 1) 0) e
  where
    go : (b : Bool) → cond b None (Some (record was { holds = was.holds - 1 })) ≡ Some x → (w : Held) × (Some was ≡ Some w) × (x.id ≡ w.id)
    go true e = absurd cc
    go false e = (let z : record was { holds = was.holds - 1 } ≡ x = cc in (was, refl, ap (λ (y : Held). y.id) (sym z)))

module _ (s : Shelf) (m : Maps) (pid i : ℕ) (k : AreKept m) (p : IsProcess m pid) (small : i < 8192) (o : IsInOrder s m) where
  pub held_here : held_at (dropped m pid i) pid i ≡ less_of (held_at m pid i)
  held_here = held_at-dropped m pid i pid i k p small ∙ cond-true (eqb pid pid && eqb i i) (less_of (held_at m pid i)) (held_at m pid i) (rw (eq-eqb pid pid refl, eq-eqb i i refl) refl)

  held_there : (q j : ℕ) → (eqb q pid && eqb j i) ≡ false → held_at (dropped m pid i) q j ≡ held_at m q j
  held_there q j e = held_at-dropped m pid i q j k p small ∙ cond-false (eqb q pid && eqb j i) (less_of (held_at m pid i)) (held_at m q j) e

  table_here : table_of (dropped m pid i) pid ≡ emptied (held_at m pid i) (table_of m pid) i
  table_here = table_of-dropped m pid i pid k p ∙ cond-true (eqb pid pid) (emptied (held_at m pid i) (table_of m pid) i) (table_of m pid) (eq-eqb pid pid refl)

  long : (q : ℕ) → length (table_of (dropped m pid i) q) ≡ length (table_of m q)
  long q = elim (cases_eq q pid) [
    | inl e ↦ ap (λ (x : ℕ). length (table_of (dropped m pid i) x)) e ∙ ap length table_here ∙ emptied_long (held_at m pid i) (table_of m pid) i ∙ ap (λ (x : ℕ). length (table_of m x)) (sym e)
    | inr n ↦ ap length (table_of-dropped m pid i q k p ∙ cond-false (eqb q pid) (emptied (held_at m pid i) (table_of m pid) i) (table_of m q) (ne_eqb q pid n))
  ]

  entry_there : (q j : ℕ) → (q ≡ pid → j ≢ i) → descriptor_at (dropped m pid i) q j ≡ descriptor_at m q j
  entry_there q j other = elim (cases_eq q pid) [
    | inl e ↦ ap (λ (x : ℕ). descriptor_at (dropped m pid i) x j) e ∙ ap (λ (t : List Descriptor). get_or t j empty) table_here ∙ emptied_other (held_at m pid i) (table_of m pid) i j (other e)
        ∙ ap (λ (x : ℕ). descriptor_at m x j) (sym e)
    | inr n ↦ ap (λ (t : List Descriptor). get_or t j empty) (table_of-dropped m pid i q k p ∙ cond-false (eqb q pid) (emptied (held_at m pid i) (table_of m pid) i) (table_of m q) (ne_eqb q pid n))
  ]

  entry_here : descriptor_at (dropped m pid i) pid i ≡ get_or (emptied (held_at m pid i) (table_of m pid) i) i empty
  entry_here = ap (λ (t : List Descriptor). get_or t i empty) table_here

  -- what holds of the place and of all others, holds of each
  by_pair : (P : ℕ → ℕ → Type 0) → P pid i → ((q j : ℕ) → (q ≡ pid → j ≢ i) → (eqb q pid && eqb j i) ≡ false → P q j) → (q j : ℕ) → P q j
  by_pair P here there q j = elim (pair_is q j pid i) [
    | Here e f t ↦ subst (λ (x : ℕ). P x j) (sym e) (subst (λ (y : ℕ). P pid y) (sym f) here)
    | Other n t ↦ there q j n t
  ]

  pub takes : Takes m (dropped m pid i) pid i
  takes = record {
    processes = dropped-processes m pid i;
    held = λ q j. held_at-dropped m pid i q j k p small;
    rights = by_pair (λ q j. IsSome (held_at (dropped m pid i) q j) → rights_at (dropped m pid i) q j ≡ rights_at m q j)
        (λ some. ap (λ (d : Descriptor). rights_of d.access) (entry_here ∙ rights_less (held_at m pid i) (table_of m pid) i (subst (λ (x : Option Held). IsSome x) held_here some)))
        (λ q j n t some. ap (λ (d : Descriptor). rights_of d.access) (entry_there q j n));
  }

  pub in_order : IsInOrder s (dropped m pid i)
  in_order = record {
    held = record {
      live = by_pair (λ q j. (x : Held) → held_at (dropped m pid i) q j ≡ Some x → IsSome (entry_of s x.id))
          (λ x e. let w = less_is (held_at m pid i) x (sym held_here ∙ e) in subst (λ (y : SegId). IsSome (entry_of s y)) (sym w.2) (o.held.live pid i w.0 w.1))
          (λ q j n t x e. o.held.live q j x (sym (held_there q j t) ∙ e));
      inside = by_pair (λ q j. (x : Held) → held_at (dropped m pid i) q j ≡ Some x → j < length (table_of (dropped m pid i) q))
          (λ x e. let w = less_is (held_at m pid i) x (sym held_here ∙ e) in let g = o.held.inside pid i w.0 w.1 in omega (arith, long pid, g))
          (λ q j n t x e. let g = o.held.inside q j x (sym (held_there q j t) ∙ e) in omega (arith, long q, g));
    };
    settled = by_pair (λ q j. IsSettledAt s (held_at (dropped m pid i) q j) (descriptor_at (dropped m pid i) q j))
        (subst (λ (x : Option Held). IsSettledAt s x (descriptor_at (dropped m pid i) pid i)) (sym held_here)
        (subst (λ (d : Descriptor). IsSettledAt s (less_of (held_at m pid i)) d) (sym entry_here) (settled_less s (held_at m pid i) (table_of m pid) i (o.settled pid i))))
        (λ q j n t. subst (λ (x : Option Held). IsSettledAt s x (descriptor_at (dropped m pid i) q j)) (sym (held_there q j t))
        (subst (λ (d : Descriptor). IsSettledAt s (held_at m q j) d) (sym (entry_there q j n)) (o.settled q j)));
    tables = λ q r. long q ∙ o.tables q (subst (λ (c : ℕ). (1 ≤ q) × (q ≤ c)) (dropped-processes m pid i) r);
  }
