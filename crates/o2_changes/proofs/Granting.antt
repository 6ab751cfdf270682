-- What a grant leaves, with the segment told where it is.
use Rattle.std.proofs.Common.{◌≡◌, ◌≢◌, ℕ, ◌+◌, ◌-◌, ◌<◌, ◌≤◌, ◌&&◌, inl, inr, List, length, Option, Some, None, IsSome, IfSome, Bool, true, false, cond, eqb, refl, sym, ap, ◌∙◌, subst, arith, get_or, set}
use Rattle.std.proofs.lemmas.Bool.{cases_eq, cond-true, cond-false, eq-eqb, ne_eqb}
use Rattle.std.proofs.lemmas.List.{get_or-set_other, get_or-set_same, length-set}
use Rattle.o2_desc.specs.declared.descriptor.Descriptor.{Descriptor}
use Rattle.o2_desc.specs.Bits.{rights_of}
use Rattle.o2_desc.specs.Bytes.{empty}
use Rattle.o2_place.specs.declared.seg_id.SegId.{SegId}
use Rattle.o2_regions.specs.declared.held.Held.{Held}
use Rattle.o2_regions.specs.Kept.{AreKept}
use Rattle.o2_regions.specs.Maps.{Maps, IsProcess, entered, fresh, granted, held_at, is_of, more_of, table_of}
use Rattle.o2_regions.specs.Described.{Describes as Tells}
use Rattle.o2_regions.proofs.AfterCalls.{granted-processes, held_at-granted, table_of-granted}
use Rattle.o2_segbus.specs.Settled.{IsSettledAt, descriptor_at}
use Rattle.o2_store.specs.Shelf.{Shelf, IsShelf, base_of, entry, entry_of, place_of}
use Rattle.o2_service.specs.Told.{IsHeldWell}
use Rattle.o2_service.proofs.Placing.{live_size}
use Rattle.o2_changes.specs.Holding.{Grants, rights_at}
use Rattle.o2_changes.specs.Order.{IsInOrder}
use Rattle.o2_changes.proofs.Settling.{Here, Other, pair_is, settles, told_held, told_rights}

entered_long : (o : Option Held) (h : Held) (t : List Descriptor) (i access : ℕ) → length (entered o h t i access) ≡ length t
entered_long None h t i access = go (eqb h.holds 0)
  where
    go : (b : Bool) → length (cond b t (set t i (fresh access))) ≡ length t
    go true = refl
    go false = length-set t i (fresh access)
entered_long (Some was) h t i access = refl

entered_other : (o : Option Held) (h : Held) (t : List Descriptor) (i access j : ℕ) → j ≢ i → get_or (entered o h t i access) j empty ≡ get_or t j empty
entered_other None h t i access j n = go (eqb h.holds 0)
  where
    go : (b : Bool) → get_or (cond b t (set t i (fresh access))) j empty ≡ get_or t j empty
    go true = refl
    go false = get_or-set_other t i j (fresh access) empty n
entered_other (Some was) h t i access j n = refl

entered_some : (o : Option Held) (h : Held) (t : List Descriptor) (i access : ℕ) → IsSome o → entered o h t i access ≡ t
entered_some None h t i access some = absurd (let f : false ≡ true = some in cc)
entered_some (Some was) h t i access some = refl

more_is : (o : Option Held) (h : Held) → 0 < h.holds → IfSome o (λ w. w.id ≡ h.id) → (x : Held) → more_of o h ≡ Some x → x.id ≡ h.id
more_is None h some same x e = go (eqb h.holds 0) refl e
  where
    go : (b : Bool) → eqb h.holds 0 ≡ b → cond b None (Some h) ≡ Some x → x.id ≡ h.id
    go true f g = absurd cc
    go false f g = let z : h ≡ x = cc in ap (λ (y : Held). y.id) (sym z)
more_is (Some was) h some same x e = let z : record was { holds = was.holds + h.holds } ≡ x = cc in ap (λ (y : Held). y.id) (sym z) ∙ same

same_is : (id : SegId) (h : Held) → h.id ≡ id → is_of id (Some h) ≡ true
same_is id h e = rw (eq-eqb h.id.key id.key (ap (λ (x : SegId). x.key) e), eq-eqb h.id.age id.age (ap (λ (x : SegId). x.age) e)) refl

more_of_it : (o : Option Held) (h : Held) → 0 < h.holds → IfSome o (λ w. w.id ≡ h.id) → is_of h.id (more_of o h) ≡ true
more_of_it None h some same = rw (ne_eqb h.holds 0 (omega arith)) (same_is h.id h refl)
more_of_it (Some was) h some same = same_is h.id (record was { holds = was.holds + h.holds }) same

module _ (s : Shelf) (m : Maps) (pid i access : ℕ) (h : Held) (k : AreKept m) (p : IsProcess m pid) (small : i < 8192) (some : 0 < h.holds) (same : IfSome (held_at m pid i) (λ w. w.id ≡ h.id)) where
  after : Maps
  after = granted m pid i h access

  held_here : held_at (granted m pid i h access) pid i ≡ more_of (held_at m pid i) h
  held_here = held_at-granted m pid i access pid i h k p small ∙ cond-true (eqb pid pid && eqb i i) (more_of (held_at m pid i) h) (held_at m pid i) (rw (eq-eqb pid pid refl, eq-eqb i i refl) refl)

  held_there : (q j : ℕ) → (eqb q pid && eqb j i) ≡ false → held_at (granted m pid i h access) q j ≡ held_at m q j
  held_there q j e = held_at-granted m pid i access q j h k p small ∙ cond-false (eqb q pid && eqb j i) (more_of (held_at m pid i) h) (held_at m q j) e

  long : (q : ℕ) → length (table_of (granted m pid i h access) q) ≡ length (table_of m q)
  long q = elim (cases_eq q pid) [
    | inl e ↦ ap length (table_of-granted m pid i access q h k p ∙ cond-true (eqb q pid) (entered (held_at m pid i) h (table_of m pid) i access) (table_of m q) (eq-eqb q pid e)) ∙ entered_long (held_at m pid i) h (table_of m pid) i access
        ∙ ap (λ (x : ℕ). length (table_of m x)) (sym e)
    | inr n ↦ ap length (table_of-granted m pid i access q h k p ∙ cond-false (eqb q pid) (entered (held_at m pid i) h (table_of m pid) i access) (table_of m q) (ne_eqb q pid n))
  ]

  entry_there : (q j : ℕ) → (q ≡ pid → j ≢ i) → descriptor_at (granted m pid i h access) q j ≡ descriptor_at m q j
  entry_there q j other = elim (cases_eq q pid) [
    | inl e ↦ ap (λ (t : List Descriptor). get_or t j empty) (table_of-granted m pid i access q h k p ∙ cond-true (eqb q pid) (entered (held_at m pid i) h (table_of m pid) i access) (table_of m q) (eq-eqb q pid e))
        ∙ entered_other (held_at m pid i) h (table_of m pid) i access j (other e) ∙ ap (λ (x : ℕ). get_or (table_of m x) j empty) (sym e)
    | inr n ↦ ap (λ (t : List Descriptor). get_or t j empty) (table_of-granted m pid i access q h k p ∙ cond-false (eqb q pid) (entered (held_at m pid i) h (table_of m pid) i access) (table_of m q) (ne_eqb q pid n))
  ]

  table_here : table_of (granted m pid i h access) pid ≡ entered (held_at m pid i) h (table_of m pid) i access
  table_here = table_of-granted m pid i access pid h k p ∙ cond-true (eqb pid pid) (entered (held_at m pid i) h (table_of m pid) i access) (table_of m pid) (eq-eqb pid pid refl)

  entry_held : IsSome (held_at m pid i) → descriptor_at (granted m pid i h access) pid i ≡ descriptor_at m pid i
  entry_held there = ap (λ (t : List Descriptor). get_or t i empty) (table_here ∙ entered_some (held_at m pid i) h (table_of m pid) i access there)

  entry_new : IsInOrder s m → held_at m pid i ≡ None → descriptor_at (granted m pid i h access) pid i ≡ fresh access
  entry_new o none =
      ap (λ (t : List Descriptor). get_or t i empty) (table_here ∙ ap (λ (x : Option Held). entered x h (table_of m pid) i access) none ∙ cond-false (eqb h.holds 0) (table_of m pid) (set (table_of m pid) i (fresh access)) (ne_eqb h.holds 0 (omega arith)))
      ∙ get_or-set_same (table_of m pid) i (fresh access) empty (omega (arith, o.tables pid p))

  rights_kept : (q j : ℕ) → IsSome (held_at m q j) → rights_at (granted m pid i h access) q j ≡ rights_at m q j
  rights_kept q j there = elim (pair_is q j pid i) [
    | Here e f t ↦ ap (λ (d : Descriptor). rights_of d.access) (subst (λ (x : ℕ). descriptor_at (granted m pid i h access) x j ≡ descriptor_at m x j) (sym e)
        (subst (λ (y : ℕ). descriptor_at (granted m pid i h access) pid y ≡ descriptor_at m pid y) (sym f) (entry_held (subst (λ (y : ℕ). IsSome (held_at m pid y)) f (subst (λ (x : ℕ). IsSome (held_at m x j)) e there)))))
    | Other n t ↦ ap (λ (d : Descriptor). rights_of d.access) (entry_there q j n)
  ]

  held_well : IsInOrder s m → IsSome (entry_of s h.id) → IsHeldWell s (granted m pid i h access)
  held_well o live = record { live = lives; inside = insides }
    where
      lives : (q j : ℕ) (x : Held) → held_at (granted m pid i h access) q j ≡ Some x → IsSome (entry_of s x.id)
      lives q j x e = elim (pair_is q j pid i) [
        | Here a b t ↦ subst (λ (y : SegId). IsSome (entry_of s y)) (sym (more_is (held_at m pid i) h some same x
            (sym held_here ∙ ap (λ (y : ℕ). held_at (granted m pid i h access) pid y) (sym b) ∙ ap (λ (y : ℕ). held_at (granted m pid i h access) y j) (sym a) ∙ e))) live
        | Other n t ↦ o.held.live q j x (sym (held_there q j t) ∙ e)
      ]

      insides : (q j : ℕ) (x : Held) → held_at (granted m pid i h access) q j ≡ Some x → j < length (table_of (granted m pid i h access) q)
      insides q j x e = elim (pair_is q j pid i) [
        | Here a b t ↦ (let l = long q in let g : length (table_of m q) ≡ 8192 = ap (λ (y : ℕ). length (table_of m y)) a ∙ o.tables pid p in omega (arith, l, g, b, small))
        | Other n t ↦ (let l = long q in let g = o.held.inside q j x (sym (held_there q j t) ∙ e) in omega (arith, l, g))
      ]

  settled_there : IsInOrder s m → (q j : ℕ) → is_of h.id (held_at (granted m pid i h access) q j) ≡ false → IsSettledAt s (held_at (granted m pid i h access) q j) (descriptor_at (granted m pid i h access) q j)
  settled_there o q j e = elim (pair_is q j pid i) [
    | Here a b t ↦ absurd (let z : is_of h.id (more_of (held_at m pid i) h) ≡ false = ap (is_of h.id) (sym held_here ∙ ap (λ (y : ℕ). held_at (granted m pid i h access) pid y) (sym b) ∙ ap (λ (y : ℕ). held_at (granted m pid i h access) y j) (sym a)) ∙ e in
        let y : is_of h.id (more_of (held_at m pid i) h) ≡ true = more_of_it (held_at m pid i) h some same in let f : false ≡ true = sym z ∙ y in cc)
    | Other n t ↦ subst (λ (x : Option Held). IsSettledAt s x (descriptor_at (granted m pid i h access) q j)) (sym (held_there q j t))
        (subst (λ (d : Descriptor). IsSettledAt s (held_at m q j) d) (sym (entry_there q j n)) (o.settled q j))
  ]

  -- the tables behind it, with the descriptors told
  pub grants : IsInOrder s m → (n : Maps) (base : Option ℕ) (limit : ℕ) → Tells (granted m pid i h access) n h.id base limit → Grants m n pid i h access
  grants o n base limit t = record {
    processes = ap (λ (x : Maps). x.processes) t.rest ∙ granted-processes m pid i access h;
    held = λ q j. told_held (granted m pid i h access) n h.id base limit t q j ∙ held_at-granted m pid i access q j h k p small;
    here = λ none. told_rights (granted m pid i h access) n h.id base limit t pid i ∙ ap (λ (d : Descriptor). rights_of d.access) (entry_new o none);
    rights = λ q j there. told_rights (granted m pid i h access) n h.id base limit t q j ∙ rights_kept q j there;
  }

  pub in_order : IsInOrder s m → IsShelf s → IsSome (entry_of s h.id) → (n : Maps) (base : Option ℕ) → Tells (granted m pid i h access) n h.id base ((entry s h.id.key).size - 1)
      → base ≡ base_of (entry_of s h.id) (place_of s h.id.key) → IsInOrder s n
  in_order o shelf live n base t b =
      let w = held_well o live in
      let z = live_size s h.id shelf live in
      record {
        held = record {
          live = λ q j x e. w.live q j x (sym (told_held (granted m pid i h access) n h.id base ((entry s h.id.key).size - 1) t q j) ∙ e);
          inside = λ q j x e. (let l = t.lengths q in let g = w.inside q j x (sym (told_held (granted m pid i h access) n h.id base ((entry s h.id.key).size - 1) t q j) ∙ e) in omega (arith, l, g));
        };
        settled = settles s (granted m pid i h access) n h.id base ((entry s h.id.key).size - 1) t live w b (omega (arith, z)) (settled_there o);
        tables = λ q r. t.lengths q ∙ long q ∙ o.tables q (subst (λ (c : ℕ). (1 ≤ q) × (q ≤ c)) (ap (λ (x : Maps). x.processes) t.rest ∙ granted-processes m pid i access h) r);
      }
