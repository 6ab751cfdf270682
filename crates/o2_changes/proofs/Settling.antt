-- Descriptors behind a telling of where a segment is.
use Rattle.std.proofs.Common.{◌≡◌, ◌≢◌, ℕ, ◌+◌, ◌<◌, ◌&&◌, inl, inr, length, Option, Some, None, is_some, IsSome, Bool, true, false, eqb, refl, sym, ap, ◌∙◌, subst, arith}
use Rattle.std.proofs.lemmas.Bool.{cases_eq, cases_lt, cond-true, cond-false, and_parts, eqb-true, eq-eqb, ne_eqb}
use Rattle.std.proofs.lemmas.List.{get_or_past}
use Rattle.o2_desc.specs.declared.descriptor.Descriptor.{Descriptor}
use Rattle.o2_desc.specs.Bits.{rights_of, with_present}
use Rattle.o2_desc.specs.Bytes.{empty}
use Rattle.o2_place.specs.declared.seg_id.SegId.{SegId}
use Rattle.o2_regions.specs.declared.held.Held.{Held}
use Rattle.o2_regions.specs.Maps.{Maps, held_at, is_of, table_of}
use Rattle.o2_regions.specs.Described.{Describes as Tells, entry_at, placed}
use Rattle.o2_segbus.specs.Settled.{Describes, IsSettled, IsSettledAt, descriptor_at}
use Rattle.o2_store.specs.Shelf.{Shelf, base_of, entry, entry_of, place_of}
use Rattle.o2_service.specs.Told.{IsHeldWell}
use Rattle.o2_service.proofs.Placing.{base_there, told_descriptor}
use Rattle.o2_changes.specs.Holding.{rights_at}

-- the place of a process and an index, or another
pub data IsPair (q j pid i : ℕ) : Type 0 where
  Here : q ≡ pid → j ≡ i → (eqb q pid && eqb j i) ≡ true → IsPair q j pid i
  Other : (q ≡ pid → j ≢ i) → (eqb q pid && eqb j i) ≡ false → IsPair q j pid i

pub pair_is : (q j pid i : ℕ) → IsPair q j pid i
pair_is q j pid i = elim (cases_eq q pid) [
  | inr n ↦ Other (λ e. absurd (n e)) (rw (ne_eqb q pid n) refl)
  | inl e ↦ elim (cases_eq j i) [
    | inr n ↦ Other (λ _. n) (rw (eq-eqb q pid e, ne_eqb j i n) refl)
    | inl f ↦ Here e f (rw (eq-eqb q pid e, eq-eqb j i f) refl)
  ]
]

-- what a telling leaves of what is held
pub told_held : (m n : Maps) (id : SegId) (base : Option ℕ) (limit : ℕ) → Tells m n id base limit → (pid i : ℕ) → held_at n pid i ≡ held_at m pid i
told_held m n id base limit t pid i = ap (λ (x : Maps). held_at x pid i) t.rest

-- descriptors of other segments stay
pub told_other : (m n : Maps) (id : SegId) (base : Option ℕ) (limit : ℕ) → Tells m n id base limit → (pid i : ℕ) → is_of id (held_at m pid i) ≡ false → descriptor_at n pid i ≡ descriptor_at m pid i
told_other m n id base limit t pid i other = elim (cases_lt i (length (table_of m pid))) [
  | inl within ↦ t.entries pid i within ∙ cond-false (is_of id (held_at m pid i)) (placed base limit (entry_at m pid i)) (entry_at m pid i) other
  | inr past ↦ (let l = t.lengths pid in get_or_past (table_of n pid) i empty (omega (arith, l, past)) ∙ sym (get_or_past (table_of m pid) i empty past))
]

told_here : (m n : Maps) (id : SegId) (base : Option ℕ) (limit : ℕ) → Tells m n id base limit → (pid i : ℕ) → i < length (table_of m pid) → is_of id (held_at m pid i) ≡ true
    → descriptor_at n pid i ≡ placed base limit (descriptor_at m pid i)
told_here m n id base limit t pid i within here = t.entries pid i within ∙ cond-true (is_of id (held_at m pid i)) (placed base limit (entry_at m pid i)) (entry_at m pid i) here

rights_present : (a : ℕ) (b : Bool) → rights_of (with_present a b) ≡ rights_of a
rights_present a true = omega arith
rights_present a false = omega arith

-- rights stay
pub told_rights : (m n : Maps) (id : SegId) (base : Option ℕ) (limit : ℕ) → Tells m n id base limit → (pid i : ℕ) → rights_at n pid i ≡ rights_at m pid i
told_rights m n id base limit t pid i = go (is_of id (held_at m pid i)) refl
  where
    go : (b : Bool) → is_of id (held_at m pid i) ≡ b → rights_at n pid i ≡ rights_at m pid i
    go false e = ap (λ (d : Descriptor). rights_of d.access) (told_other m n id base limit t pid i e)
    go true e = elim (cases_lt i (length (table_of m pid))) [
      | inl within ↦ ap (λ (d : Descriptor). rights_of d.access) (told_here m n id base limit t pid i within e) ∙ rights_present (descriptor_at m pid i).access (is_some base)
      | inr past ↦ (let l = t.lengths pid in
          ap (λ (d : Descriptor). rights_of d.access) (get_or_past (table_of n pid) i empty (omega (arith, l, past)) ∙ sym (get_or_past (table_of m pid) i empty past)))
    ]

of_key : (id : SegId) (h : Held) → is_of id (Some h) ≡ true → h.id.key ≡ id.key
of_key id h e = eqb-true h.id.key id.key (and_parts (eqb h.id.key id.key) (eqb h.id.age id.age) e).0

-- where the descriptors of all others agree with the store, all do behind it
pub settles : (s : Shelf) (m n : Maps) (id : SegId) (base : Option ℕ) (limit : ℕ) → Tells m n id base limit → IsSome (entry_of s id) → IsHeldWell s m
    → base ≡ base_of (entry_of s id) (place_of s id.key) → limit + 1 ≡ (entry s id.key).size
    → ((q j : ℕ) → is_of id (held_at m q j) ≡ false → IsSettledAt s (held_at m q j) (descriptor_at m q j)) → IsSettled s n
settles s m n id base limit t live w b l a q j = subst (λ (o : Option Held). IsSettledAt s o (descriptor_at n q j)) (sym (told_held m n id base limit t q j)) (go (held_at m q j) (is_of id (held_at m q j)) refl refl)
  where
    stays : is_of id (held_at m q j) ≡ false → IsSettledAt s (held_at m q j) (descriptor_at n q j)
    stays f = subst (λ (d : Descriptor). IsSettledAt s (held_at m q j) d) (sym (told_other m n id base limit t q j f)) (a q j f)

    go : (o : Option Held) (is : Bool) → held_at m q j ≡ o → is_of id (held_at m q j) ≡ is → IsSettledAt s o (descriptor_at n q j)
    go o false e f = subst (λ (x : Option Held). IsSettledAt s x (descriptor_at n q j)) e (stays f)
    go None true e f = absurd (let g : false ≡ true = sym (ap (is_of id) e) ∙ f in cc)
    go (Some h) true e f =
        let k : h.id.key ≡ id.key = of_key id h (sym (ap (is_of id) e) ∙ f) in
        let x = told_here m n id base limit t q j (w.inside q j h e) f in
        let y = told_descriptor base limit (entry s id.key).size (place_of s id.key) (descriptor_at m q j) (b ∙ base_there (entry_of s id) (place_of s id.key) live) l in
        subst (λ (d : Descriptor). Describes (place_of s h.id.key) (entry s h.id.key).size (rights_of d.access) d) (sym x)
        (subst (λ (c : ℕ). Describes (place_of s c) (entry s c).size (rights_of (placed base limit (descriptor_at m q j)).access) (placed base limit (descriptor_at m q j))) (sym k) y)
