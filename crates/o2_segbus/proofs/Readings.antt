-- Accesses through the hidden part of a register are those of the view.
use Rattle.std.proofs.Common.{◌≡◌, ◌≤◌, ◌+◌, refl, sym, ap, subst, ◌∙◌, ℕ, Bool, true, false, cond, List, [], length, take, drop}
use Rattle.std.specs.Prelude.{Option, Some, None, Result, Ok, Err, nat_le}
use Rattle.std.specs.Borrow.{GName}
use Rattle.std.proofs.lemmas.Bool.{false≢true, leb-true}
use Rattle.o2_desc.specs.declared.descriptor.Descriptor.{Descriptor}
use Rattle.o2_desc.specs.Bits.{is_present}
use Rattle.o2_phys.specs.Bytes.{part}
use Rattle.o2_phys.proofs.Parts.{length-part}
use Rattle.o2_isa.specs.declared.instr.Width.{Width}
use Rattle.o2_isa.specs.declared.instr.Sreg.{Sreg}
use Rattle.o2_isa.specs.declared.instr.Sreg.TheVariants.{Cs}
use Rattle.o2_isa.specs.View.{View, Hold, SameRoom, is_readable, is_writable, in_register, reached, read_name, read_of, room_of, fetched, hold_bytes, value_at, width_len, outside}
use Rattle.o2_regions.specs.Maps.{Maps}
use Rattle.o2_store.specs.Shelf.{Shelf}
use Rattle.o2_segbus.specs.declared.registers.SegmentRegisters.{SegmentRegisters}
use Rattle.o2_segbus.specs.Registers.{register_in}
use Rattle.o2_segbus.specs.Seen.{bytes_in, seen_with, AreNamed}
use Rattle.o2_segbus.specs.Bus.{AreLoaded, AreInside, registers_of, bus_view}
use Rattle.o2_segbus.specs.Words.{read_by, room_by, bytes_by, IsInside}
use Rattle.o2_segbus.proofs.Bits.{readable_by, writable_by, present_by}
use Rattle.o2_segbus.proofs.Parts.{value_part}
use Rattle.o2_segbus.proofs.Holds.{IsPart, HasPart, part_at, part_bytes}

part_length : (s : Shelf) (d : Descriptor) (h : Hold) → HasPart s d h → length (bytes_in s h.name) ≡ d.limit + 1
part_length s d h p = ap length (part_bytes s d h p) ∙ length-part s.memory d.base (d.limit + 1) p.inside

read_part : (s : Shelf) (v : View) (d : Descriptor) (o : Option Hold) (r : Sreg) (k : ℕ) (w : Width) → v.bytes ≡ bytes_in s → IsPart s d o → read_by s.memory d r k w ≡ read_name v k w (reached o is_readable v r k w)
read_part s v d None r k w e p = ap (λ (a : ℕ). cond (is_readable a) (cond (nat_le (k + width_len w) (d.limit + 1)) (Ok (value_at s.memory (d.base + k) w)) (Err (outside r))) (Err (13, 0))) p
read_part s v d (Some h) r k w e p =
    ap (λ (b : Bool). cond b (cond (nat_le (k + width_len w) (d.limit + 1)) (Ok (value_at s.memory (d.base + k) w)) (Err (outside r))) (Err (13, 0))) (readable_by d.access h.rights true p.access)
    ∙ (tests (is_readable h.rights) (nat_le (k + width_len w) (d.limit + 1)) refl
    ∙ ap (λ (n : ℕ). read_name v k w (cond (is_readable h.rights) (cond (nat_le (k + width_len w) n) (Ok h.name) (Err (outside r))) (Err (13, 0)))) (sym long))
  where
    long : length (v.bytes h.name) ≡ d.limit + 1
    long = ap (λ (f : ℕ → List ℕ). length (f h.name)) e ∙ part_length s d h p

    bytes : v.bytes h.name ≡ part s.memory d.base (d.limit + 1)
    bytes = ap (λ (f : ℕ → List ℕ). f h.name) e ∙ part_bytes s d h p

    tests : (a b : Bool) → nat_le (k + width_len w) (d.limit + 1) ≡ b
        → cond a (cond b (Ok (value_at s.memory (d.base + k) w)) (Err (outside r))) (Err (13, 0)) ≡ read_name v k w (cond a (cond b (Ok h.name) (Err (outside r))) (Err (13, 0)))
    tests true true q = ap Ok (value_part w s.memory d.base (d.limit + 1) k (leb-true _ _ q) ∙ ap (λ (bs : List ℕ). value_at bs k w) (sym bytes))
    tests true false q = refl
    tests false b q = refl

pub read_view : (g t : GName) (s : Shelf) (m : Maps) (pid : ℕ) (x : SegmentRegisters) (r : Sreg) (k : ℕ) (w : Width) → AreInside s → AreNamed s m → AreLoaded s m pid x
    → read_by s.memory (register_in x r).descriptor r k w ≡ read_of (bus_view g t s m pid x) r k w
unfolding read_of bus_view seen_with
read_view g t s m pid x r k w i n l = read_part s (bus_view g t s m pid x) (register_in x r).descriptor (in_register (registers_of m pid x) r) r k w refl (part_at s m pid x r i n l)

room_part : {U : Type 0} (q : Result U (ℕ × ℕ)) (s : Shelf) (v : View) (d : Descriptor) (o : Option Hold) (r : Sreg) (k : ℕ) (w : Width) → v.bytes ≡ bytes_in s → IsPart s d o → SameRoom q (room_by d r k w) → SameRoom q (reached o is_writable v r k w)
room_part q s v d None r k w e p h =
    subst (λ (a : ℕ). SameRoom q (cond (is_writable a) (cond (nat_le (k + width_len w) (d.limit + 1)) (Ok 0) (Err (outside r))) (Err (13, 0)))) p h
room_part q s v d (Some y) r k w e p h =
    subst (λ (n : ℕ). SameRoom q (cond (is_writable y.rights) (cond (nat_le (k + width_len w) n) (Ok y.name) (Err (outside r))) (Err (13, 0)))) (sym long)
    (tests q (is_writable y.rights) (nat_le (k + width_len w) (d.limit + 1))
    (subst (λ (b : Bool). SameRoom q (cond b (cond (nat_le (k + width_len w) (d.limit + 1)) (Ok 0) (Err (outside r))) (Err (13, 0)))) (writable_by d.access y.rights true p.access) h))
  where
    long : length (v.bytes y.name) ≡ d.limit + 1
    long = ap (λ (f : ℕ → List ℕ). length (f y.name)) e ∙ part_length s d y p

    tests : {U : Type 0} (q : Result U (ℕ × ℕ)) (a b : Bool) → SameRoom q (cond a (cond b (Ok 0) (Err (outside r))) (Err (13, 0))) → SameRoom q (cond a (cond b (Ok y.name) (Err (outside r))) (Err (13, 0)))
    tests (Ok u) true true z = tt
    tests (Err d) true true z = absurd z
    tests q true false z = z
    tests q false b z = z

pub room_view : {U : Type 0} (q : Result U (ℕ × ℕ)) (g t : GName) (s : Shelf) (m : Maps) (pid : ℕ) (x : SegmentRegisters) (r : Sreg) (k : ℕ) (w : Width) → AreInside s → AreNamed s m → AreLoaded s m pid x
    → SameRoom q (room_by (register_in x r).descriptor r k w) → SameRoom q (room_of (bus_view g t s m pid x) r k w)
unfolding room_of bus_view seen_with
room_view q g t s m pid x r k w i n l h = room_part q s (bus_view g t s m pid x) (register_in x r).descriptor (in_register (registers_of m pid x) r) r k w refl (part_at s m pid x r i n l) h

-- what can be read through a part lies in the memory
pub readable_inside : (s : Shelf) (d : Descriptor) (o : Option Hold) → IsPart s d o → is_readable d.access ≡ true → d.base + (d.limit + 1) ≤ length s.memory
readable_inside s d None p e = absurd (false≢true (subst (λ (a : ℕ). is_readable a ≡ true) p e))
readable_inside s d (Some h) p e = p.inside

pub present_inside : (s : Shelf) (d : Descriptor) (o : Option Hold) → IsPart s d o → IsInside s.memory d
present_inside s d None p e = absurd (false≢true (subst (λ (a : ℕ). is_present a ≡ true) p e))
present_inside s d (Some h) p e = p.inside

fetch_part : (s : Shelf) (v : View) (d : Descriptor) (o : Option Hold) → v.bytes ≡ bytes_in s → IsPart s d o → bytes_by s.memory d ≡ hold_bytes v o
fetch_part s v d None e p = ap (λ (a : ℕ). cond (is_present a) (part s.memory d.base (d.limit + 1)) []) p
fetch_part s v d (Some h) e p =
    ap (λ (b : Bool). cond b (part s.memory d.base (d.limit + 1)) []) (present_by d.access h.rights true p.access)
    ∙ (sym (part_bytes s d h p) ∙ ap (λ (f : ℕ → List ℕ). f h.name) (sym e))

pub fetch_view : (g t : GName) (s : Shelf) (m : Maps) (pid : ℕ) (x : SegmentRegisters) (ip : ℕ) → AreInside s → AreNamed s m → AreLoaded s m pid x
    → take 10 (drop ip (bytes_by s.memory x.cs.descriptor)) ≡ fetched (bus_view g t s m pid x) ip
unfolding fetched bus_view seen_with
fetch_view g t s m pid x ip i n l = ap (λ (bs : List ℕ). take 10 (drop ip bs)) (fetch_part s (bus_view g t s m pid x) x.cs.descriptor (registers_of m pid x).cs refl (part_at s m pid x Cs i n l))

-- The same for the calls that a bus makes.

pub read_ready : (s : Shelf) (m : Maps) (pid : ℕ) (x : SegmentRegisters) (r : Sreg) (d : Descriptor) (memory : List ℕ) → d ≡ (register_in x r).descriptor → memory ≡ s.memory → AreInside s → AreNamed s m → AreLoaded s m pid x
    → is_readable d.access ≡ true → d.base + (d.limit + 1) ≤ length memory
read_ready s m pid x r d memory e f i n l =
    subst (λ (z : Descriptor). is_readable z.access ≡ true → z.base + (z.limit + 1) ≤ length memory) (sym e)
    (subst (λ (z : List ℕ). is_readable (register_in x r).descriptor.access ≡ true → (register_in x r).descriptor.base + ((register_in x r).descriptor.limit + 1) ≤ length z) (sym f)
    (readable_inside s (register_in x r).descriptor (in_register (registers_of m pid x) r) (part_at s m pid x r i n l)))

pub read_is : (g t : GName) (s : Shelf) (m : Maps) (pid : ℕ) (x : SegmentRegisters) (r : Sreg) (k : ℕ) (w : Width) (d : Descriptor) (memory : List ℕ) → d ≡ (register_in x r).descriptor → memory ≡ s.memory → AreInside s → AreNamed s m → AreLoaded s m pid x
    → read_by memory d r k w ≡ read_of (bus_view g t s m pid x) r k w
read_is g t s m pid x r k w d memory e f i n l =
    ap (λ (z : Descriptor). read_by memory z r k w) e ∙ (ap (λ (z : List ℕ). read_by z (register_in x r).descriptor r k w) f ∙ read_view g t s m pid x r k w i n l)

pub fetch_ready : (s : Shelf) (m : Maps) (pid : ℕ) (x : SegmentRegisters) (memory : List ℕ) → memory ≡ s.memory → AreInside s → AreNamed s m → AreLoaded s m pid x → IsInside memory x.cs.descriptor
fetch_ready s m pid x memory f i n l =
    subst (λ (z : List ℕ). IsInside z x.cs.descriptor) (sym f) (present_inside s x.cs.descriptor (registers_of m pid x).cs (part_at s m pid x Cs i n l))

pub fetch_is : (g t : GName) (s : Shelf) (m : Maps) (pid : ℕ) (x : SegmentRegisters) (ip : ℕ) (memory : List ℕ) → memory ≡ s.memory → AreInside s → AreNamed s m → AreLoaded s m pid x
    → take 10 (drop ip (bytes_by memory x.cs.descriptor)) ≡ fetched (bus_view g t s m pid x) ip
fetch_is g t s m pid x ip memory f i n l =
    ap (λ (z : List ℕ). take 10 (drop ip (bytes_by z x.cs.descriptor))) f ∙ fetch_view g t s m pid x ip i n l
