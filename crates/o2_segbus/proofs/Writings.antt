-- A write through the hidden part of a register is one of the view.
use Rattle.std.proofs.Common.{◌≡◌, ◌≢◌, ◌⊎◌, inl, inr, ◌≤◌, ◌+◌, refl, sym, ap, subst, ◌∙◌, ℕ, Bool, true, false, cond, ◌==◌, List, [], ◌∷◌, length, arith}
use Rattle.std.specs.Prelude.{Option, Some, None, Result, Ok, Err, IsOk, nat_le}
use Rattle.std.specs.Borrow.{GName}
use Rattle.std.proofs.lemmas.Bool.{false≢true, eqb-true, eq-eqb, leb-true}
use mathlib.Core.Path.{fun_ext}
use Rattle.o2_desc.specs.declared.descriptor.Descriptor.{Descriptor}
use Rattle.o2_entries.specs.declared.Entry.{Entry}
use Rattle.o2_phys.specs.Bytes.{part}
use Rattle.o2_isa.specs.declared.instr.Width.{Width}
use Rattle.o2_isa.specs.declared.instr.Sreg.{Sreg}
use Rattle.o2_isa.specs.View.{View, Hold, is_writable, in_register, reached, room_of, poke, poke_hold, with_bytes, put_at, width_len, outside}
use Rattle.o2_isa.proofs.Pokes.{length_put_at}
use Rattle.o2_regions.specs.Maps.{Maps}
use Rattle.o2_store.specs.Needs.{has_age}
use Rattle.o2_store.specs.Shelf.{Shelf, IsShelf, entry, place_of}
use Rattle.o2_store.proofs.Tables.{placed_at, sized_at}
use Rattle.o2_segbus.specs.declared.registers.SegmentRegisters.{SegmentRegisters}
use Rattle.o2_segbus.specs.Registers.{register_in}
use Rattle.o2_segbus.specs.Seen.{key_of, number_from, bytes_in, bytes_under, bytes_from, seen_with, AreNamed}
use Rattle.o2_segbus.specs.Bus.{AreLoaded, AreInside, registers_of, bus_view}
use Rattle.o2_segbus.proofs.Parts.{put_part, put_other}
use Rattle.o2_segbus.proofs.Holds.{IsPart, HasPart, part_at, part_bytes}
use Rattle.o2_phys.proofs.Parts.{length-part}

-- a register holds a segment into which a value may be written
pub record CanWrite (s : Shelf) (d : Descriptor) (o : Option Hold) (k : ℕ) (w : Width) : Type 0 where
  pub hold : Hold
  pub there : o ≡ Some hold
  pub writable : is_writable hold.rights ≡ true
  pub part : HasPart s d hold
  pub room : k + width_len w ≤ d.limit + 1

chosen_ok : (b : Bool) (r : Result ℕ (ℕ × ℕ)) (e : ℕ × ℕ) → IsOk (cond b r (Err e)) → (b ≡ true) × IsOk r
chosen_ok true r e h = (refl, h)
chosen_ok false r e h = absurd (false≢true h)

can_write : (s : Shelf) (v : View) (d : Descriptor) (o : Option Hold) (r : Sreg) (k : ℕ) (w : Width) → v.bytes ≡ bytes_in s → IsPart s d o → IsOk (reached o is_writable v r k w) → CanWrite s d o k w
can_write s v d None r k w e p h = absurd (false≢true h)
can_write s v d (Some y) r k w e p h =
    let a = chosen_ok (is_writable y.rights) _ _ h in
    let b = chosen_ok (nat_le (k + width_len w) (length (v.bytes y.name))) (Ok y.name) (outside r) a.1 in
    let long : length (v.bytes y.name) ≡ d.limit + 1 = ap (λ (f : ℕ → List ℕ). length (f y.name)) e ∙ (ap length (part_bytes s d y p) ∙ length-part s.memory d.base (d.limit + 1) p.inside) in
    record { hold = y; there = refl; writable = a.0; part = p; room = subst (λ (n : ℕ). k + width_len w ≤ n) long (leb-true _ _ b.0) }

pub room_says : (g t : GName) (s : Shelf) (m : Maps) (pid : ℕ) (x : SegmentRegisters) (r : Sreg) (k : ℕ) (w : Width) → AreInside s → AreNamed s m → AreLoaded s m pid x
    → IsOk (room_of (bus_view g t s m pid x) r k w) → CanWrite s (register_in x r).descriptor (in_register (registers_of m pid x) r) k w
unfolding room_of bus_view seen_with
room_says g t s m pid x r k w i n l h = can_write s (bus_view g t s m pid x) (register_in x r).descriptor (in_register (registers_of m pid x) r) r k w refl (part_at s m pid x r i n l) h

-- Which number a name has.

from_least : (age : ℕ) (es : List (Option Entry)) (k r : ℕ) → number_from age es k ≡ Some r → k ≤ r
from_least age [] k r e = absurd (none_some e)
  where
    none_some : None ≡ Some r → ⊥
    none_some p = cc
from_least age (o ∷ es) k r e = go (has_age o age) (from_least age es (k + 1) r) e
  where
    unsome : Option ℕ → ℕ
    unsome None = k
    unsome (Some n) = n

    go : (b : Bool) → (number_from age es (k + 1) ≡ Some r → k + 1 ≤ r) → cond b (Some k) (number_from age es (k + 1)) ≡ Some r → k ≤ r
    go true f q = (let u : k ≡ r = ap unsome q in omega (arith, u))
    go false f q = (let u = f q in omega (arith, u))

has_is : (o : Option Entry) (a b : ℕ) → has_age o a ≡ true → has_age o b ≡ true → a ≡ b
has_is None a b p q = absurd (false≢true p)
has_is (Some e) a b p q = sym (eqb-true e.age a p) ∙ eqb-true e.age b q

pub one_age : (a b : ℕ) (es : List (Option Entry)) (k r : ℕ) → number_from a es k ≡ Some r → number_from b es k ≡ Some r → a ≡ b
one_age a b [] k r e f = absurd (none_some e)
  where
    none_some : None ≡ Some r → ⊥
    none_some p = cc
one_age a b (o ∷ es) k r e f = go (has_age o a) (has_age o b) (one_age a b es (k + 1) r) refl refl e f
  where
    unsome : Option ℕ → ℕ
    unsome None = k
    unsome (Some n) = n

    go : (p q : Bool) → (number_from a es (k + 1) ≡ Some r → number_from b es (k + 1) ≡ Some r → a ≡ b) → has_age o a ≡ p → has_age o b ≡ q → cond p (Some k) (number_from a es (k + 1)) ≡ Some r → cond q (Some k) (number_from b es (k + 1)) ≡ Some r → a ≡ b
    go true true i x y u v = has_is o a b x y
    go true false i x y u v = (let w : k ≡ r = ap unsome u in let z = from_least b es (k + 1) r v in absurd (omega (arith, w, z)))
    go false true i x y u v = (let w : k ≡ r = ap unsome v in let z = from_least a es (k + 1) r u in absurd (omega (arith, w, z)))
    go false false i x y u v = i u v

-- The bytes of each name behind a write.

-- no two segments lie on one another
abbrev pub AreApart : Shelf → Type 0
AreApart s = (i j a l b n : ℕ) → i ≢ j → place_of s i ≡ Some (a, l) → place_of s j ≡ Some (b, n) → (a + l ≤ b) ⊎ (b + n ≤ a)

abbrev pub with_memory : Shelf → List ℕ → Shelf
with_memory s memory = record s { memory = memory }

own_bytes : (s : Shelf) (d : Descriptor) (h : Hold) (k : ℕ) (w : Width) (x : ℕ) → HasPart s d h → k + width_len w ≤ d.limit + 1
    → bytes_under (with_memory s (put_at s.memory (d.base + k) w x)) (key_of s h.name) ≡ put_at (bytes_in s h.name) k w x
own_bytes s d h k w x p l =
    let t : Shelf = with_memory s (put_at s.memory (d.base + k) w x) in
    ap (bytes_under t) p.named
    ∙ (ap (λ (o : Option (ℕ × ℕ)). bytes_from t.memory o (entry s p.key).size) p.place
    ∙ (ap (part t.memory d.base) (sym p.size)
    ∙ (put_part w s.memory d.base (d.limit + 1) k x l
    ∙ ap (λ (bs : List ℕ). put_at bs k w x) (sym (part_bytes s d h p)))))

far : (s : Shelf) (d : Descriptor) (h : Hold) (k : ℕ) (w : Width) (j a l : ℕ) → IsShelf s → AreApart s → (p : HasPart s d h) → k + width_len w ≤ d.limit + 1 → p.key ≢ j → place_of s j ≡ Some (a, l)
    → (d.base + k + width_len w ≤ a) ⊎ (a + (entry s j).size ≤ d.base + k)
far s d h k w j a l shelf apart p room n e =
    let u = placed_at s p.key d.base p.len shelf p.place in
    let v = placed_at s j a l shelf e in
    elim (apart p.key j d.base p.len a l n p.place e) [
      | inl q ↦ inl (omega (arith, q, u.1, p.size, room))
      | inr q ↦ inr (omega (arith, q, v.1))
    ]

other_bytes : (s : Shelf) (d : Descriptor) (h : Hold) (k : ℕ) (w : Width) (x : ℕ) (j : ℕ) → IsShelf s → AreApart s → (p : HasPart s d h) → k + width_len w ≤ d.limit + 1 → p.key ≢ j
    → (o : Option (ℕ × ℕ)) → place_of s j ≡ o → bytes_from (put_at s.memory (d.base + k) w x) o (entry s j).size ≡ bytes_from s.memory o (entry s j).size
other_bytes s d h k w x j shelf apart p room n None e = refl
other_bytes s d h k w x j shelf apart p room n (Some r) e = put_other w s.memory (d.base + k) r.0 (entry s j).size x (far s d h k w j r.0 r.1 shelf apart p room n e)

bytes_after : (s : Shelf) (d : Descriptor) (h : Hold) (k : ℕ) (w : Width) (x : ℕ) → IsShelf s → AreApart s → HasPart s d h → k + width_len w ≤ d.limit + 1
    → (n : ℕ) → bytes_under (with_memory s (put_at s.memory (d.base + k) w x)) (key_of s n) ≡ cond (n == h.name) (put_at (bytes_in s h.name) k w x) (bytes_in s n)
unfolding key_of
bytes_after s d h k w x shelf apart p room n = go (n == h.name) refl
  where
    t : Shelf
    t = with_memory s (put_at s.memory (d.base + k) w x)

    elsewhere : (n == h.name) ≡ false → (o : Option ℕ) → key_of s n ≡ o → bytes_under t o ≡ bytes_under s o
    elsewhere e None q = refl
    elsewhere e (Some j) q =
        other_bytes s d h k w x j shelf apart p room
        (λ c. false≢true (sym e ∙ eq-eqb n h.name (one_age n h.name s.entries 0 j q (p.named ∙ ap Some c))))
        (place_of s j) refl

    go : (b : Bool) → (n == h.name) ≡ b → bytes_under t (key_of s n) ≡ cond b (put_at (bytes_in s h.name) k w x) (bytes_in s n)
    go true e = ap (λ (z : ℕ). bytes_under t (key_of s z)) (eqb-true n h.name e) ∙ own_bytes s d h k w x p room
    go false e = elsewhere e (key_of s n) refl

-- a bus with other bytes and so much memory
abbrev shown_with : View → (ℕ → List ℕ) → ℕ → View
shown_with v bytes size = record v { bytes = bytes; rest = record v.rest { memory = size } }

held_after : (g t : GName) (s : Shelf) (m : Maps) (pid : ℕ) (x : SegmentRegisters) (d : Descriptor) (h : Hold) (k : ℕ) (w : Width) (y : ℕ) → IsShelf s → AreApart s → HasPart s d h → k + width_len w ≤ d.limit + 1
    → bus_view g t (with_memory s (put_at s.memory (d.base + k) w y)) m pid x ≡ with_bytes (bus_view g t s m pid x) h.name (put_at ((bus_view g t s m pid x).bytes h.name) k w y)
unfolding bus_view seen_with key_of
held_after g t s m pid x d h k w y shelf apart p room =
    let v : View = bus_view g t s m pid x in
    ap (λ (f : ℕ → List ℕ). shown_with v f (length (put_at s.memory (d.base + k) w y))) (fun_ext (bytes_after s d h k w y shelf apart p room))
    ∙ ap (λ (n : ℕ). shown_with v (λ z. cond (z == h.name) (put_at (v.bytes h.name) k w y) (v.bytes z)) n) (length_put_at s.memory (d.base + k) w y)

pub write_view : (g t : GName) (s : Shelf) (m : Maps) (pid : ℕ) (x : SegmentRegisters) (r : Sreg) (k : ℕ) (w : Width) (y : ℕ) → IsShelf s → AreApart s
    → CanWrite s (register_in x r).descriptor (in_register (registers_of m pid x) r) k w
    → bus_view g t (with_memory s (put_at s.memory ((register_in x r).descriptor.base + k) w y)) m pid x ≡ poke (bus_view g t s m pid x) r k w y
unfolding poke bus_view seen_with
write_view g t s m pid x r k w y shelf apart c =
    held_after g t s m pid x (register_in x r).descriptor c.hold k w y shelf apart c.part c.room
    ∙ (ap (λ (b : Bool). cond b (with_bytes (bus_view g t s m pid x) c.hold.name (put_at ((bus_view g t s m pid x).bytes c.hold.name) k w y)) (bus_view g t s m pid x)) (sym c.writable)
    ∙ ap (λ (o : Option Hold). poke_hold (bus_view g t s m pid x) o k w y) (sym (c.there)))

-- where a value is written, and what stays
pub write_inside : (s : Shelf) (d : Descriptor) (o : Option Hold) (k : ℕ) (w : Width) → CanWrite s d o k w → d.base + k + width_len w ≤ length s.memory
write_inside s d o k w c = omega (arith, c.part.inside, c.room)

pub inside_after : (s : Shelf) (at : ℕ) (w : Width) (y : ℕ) → AreInside s → AreInside (with_memory s (put_at s.memory at w y))
inside_after s at w y i =
    let e = length_put_at s.memory at w y in
    record {
      small = omega (arith, e, i.small);
      within = λ k a l q. (let u = i.within k a l q in omega (arith, e, u));
      most = i.most;
    }

pub named_after : (s : Shelf) (memory : List ℕ) (m : Maps) → AreNamed s m → AreNamed (with_memory s memory) m
unfolding key_of
named_after s memory m n = n

pub loaded_after : (s : Shelf) (memory : List ℕ) (m : Maps) (pid : ℕ) (x : SegmentRegisters) → AreLoaded s m pid x → AreLoaded (with_memory s memory) m pid x
loaded_after s memory m pid x l = record { es = l.es; cs = l.cs; ss = l.ss; ds = l.ds }

-- what holds of every store
pub inside_is : (s : Shelf) → IsShelf s → ((k at len : ℕ) → place_of s k ≡ Some (at, len) → at + len ≤ s.places.size) → AreInside s
inside_is s h w = record {
  small = h.small;
  within = λ k a l e. (let p = placed_at s k a l h e in let q = w k a l e in omega (arith, p.1, q, h.memory));
  most = λ k. sized_at s k h;
}
