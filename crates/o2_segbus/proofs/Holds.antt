-- What a selector names, by descriptors and by the view.
use Rattle.std.proofs.Common.{◌≡◌, ◌≤◌, ◌+◌, ◌/◌, refl, sym, ap, subst, ◌∙◌, ℕ, Bool, true, false, cond, length, arith}
use Rattle.std.specs.Prelude.{Option, Some, None, is_some, option_map}
use Rattle.std.proofs.lemmas.Bool.{false≢true}
use Rattle.o2_desc.specs.declared.descriptor.Descriptor.{Descriptor}
use Rattle.o2_desc.specs.Bits.{rights_of, with_present, unmarked}
use Rattle.o2_phys.specs.Bytes.{part}
use Rattle.o2_isa.specs.declared.cpu.Cpu.{Cpu}
use Rattle.o2_isa.specs.declared.instr.Sreg.{Sreg}
use Rattle.o2_isa.specs.declared.instr.Sreg.TheVariants.{Es, Cs, Ss, Ds}
use Rattle.o2_isa.specs.View.{Hold, found_in, bound_in, in_register, is_null, is_local, present_or_none, IsBound}
use Rattle.o2_regions.specs.declared.held.Held.{Held}
use Rattle.o2_regions.specs.Maps.{Maps, held_at, table_of, descriptor_of}
use Rattle.o2_store.specs.Shelf.{Shelf, entry, place_of}
use Rattle.o2_segbus.specs.declared.registers.SegmentRegister.{SegmentRegister}
use Rattle.o2_segbus.specs.declared.registers.SegmentRegisters.{SegmentRegisters}
use Rattle.o2_segbus.specs.Registers.{register_in}
use Rattle.o2_segbus.specs.Settled.{Describes, IsSettled, IsSettledAt, descriptor_at}
use Rattle.o2_segbus.specs.Seen.{key_of, size_in, size_under, present_in, present_under, bytes_in, bytes_under, bytes_from, hold_in, hold_of, AreNamed, seen, seen_with}
use Rattle.o2_segbus.specs.Bus.{held_under, IsLoadedAs, IsLoaded, AreLoaded, AreInside, registers_of}
use Rattle.o2_segbus.specs.Opening.{opened_registers}
use Rattle.o2_segbus.specs.Words.{named_descriptor, loaded_descriptor, or_empty}

-- the segment of a hold is in memory, and a descriptor says where
pub record HasPart (s : Shelf) (d : Descriptor) (h : Hold) : Type 0 where
  pub key : ℕ
  pub len : ℕ
  pub named : key_of s h.name ≡ Some key
  pub place : place_of s key ≡ Some (d.base, len)
  pub size : d.limit + 1 ≡ (entry s key).size
  pub access : unmarked d.access ≡ with_present h.rights true
  pub inside : d.base + (d.limit + 1) ≤ length s.memory

-- a hidden part is that of what a register holds
abbrev pub IsPart : Shelf → Descriptor → Option Hold → Type 0
IsPart s d None = d.access ≡ 0
IsPart s d (Some h) = HasPart s d h

pub found_is : (m : Maps) (pid s : ℕ) → found_in (hold_in m pid) s ≡ option_map (hold_of m pid (s / 8)) (cond (is_local s) (held_at m pid (s / 8)) None)
unfolding hold_in
found_is m pid s = go (is_local s)
  where
    go : (b : Bool) → cond b (option_map (hold_of m pid (s / 8)) (held_at m pid (s / 8))) None ≡ option_map (hold_of m pid (s / 8)) (cond b (held_at m pid (s / 8)) None)
    go true = refl
    go false = refl

pub bound_is : (m : Maps) (pid s : ℕ) → bound_in (hold_in m pid) s ≡ option_map (hold_of m pid (s / 8)) (held_under m pid s)
bound_is m pid s = ap (λ (o : Option Hold). cond (is_null s) None o) (found_is m pid s) ∙ go (is_null s)
  where
    o : Option Held
    o = cond (is_local s) (held_at m pid (s / 8)) None

    go : (b : Bool) → cond b None (option_map (hold_of m pid (s / 8)) o) ≡ option_map (hold_of m pid (s / 8)) (cond b None o)
    go true = refl
    go false = refl

pub under_at : (m : Maps) (pid s : ℕ) (h : Held) → held_under m pid s ≡ Some h → held_at m pid (s / 8) ≡ Some h
under_at m pid s h e = go (is_null s) (is_local s) (held_at m pid (s / 8)) e
  where
    go : (a b : Bool) (o : Option Held) → cond a None (cond b o None) ≡ Some h → o ≡ Some h
    go true b o q = absurd (none_some q)
      where
        none_some : None ≡ Some h → ⊥
        none_some p = cc
    go false true o q = q
    go false false o q = absurd (none_some q)
      where
        none_some : None ≡ Some h → ⊥
        none_some p = cc

part_by_place : (s : Shelf) (key age rights : ℕ) (d : Descriptor) → AreInside s → key_of s age ≡ Some key → (p : Option (ℕ × ℕ)) → place_of s key ≡ p → is_some p ≡ true → Describes p (entry s key).size rights d
    → HasPart s d (record { name = age; rights = rights })
part_by_place s key age rights d i n None e h q = absurd (false≢true h)
part_by_place s key age rights d i n (Some r) e h q = record {
  key = key;
  len = r.1;
  named = n;
  place = e ∙ ap (λ (a : ℕ). Some (a, r.1)) (sym q.base);
  size = q.limit;
  access = q.access;
  inside = (let w = i.within key r.0 r.1 e in omega (arith, w, q.base, q.limit));
}

pub part_is : (s : Shelf) (m : Maps) (pid : ℕ) (x : SegmentRegister) → AreInside s → AreNamed s m → IsLoaded s m pid x → IsPart s x.descriptor (bound_in (hold_in m pid) x.selector)
part_is s m pid x i n l = subst (λ (o : Option Hold). IsPart s x.descriptor o) (sym (bound_is m pid x.selector)) (go (held_under m pid x.selector) refl l)
  where
    go : (o : Option Held) → held_under m pid x.selector ≡ o → IsLoadedAs s (rights_of (descriptor_at m pid (x.selector / 8)).access) o x.descriptor → IsPart s x.descriptor (option_map (hold_of m pid (x.selector / 8)) o)
    go None e q = q
    go (Some h) e q = part_by_place s h.id.key h.id.age _ x.descriptor i (n pid (x.selector / 8) h (under_at m pid x.selector h e)) (place_of s h.id.key) refl q.0 q.1

-- the register's part
pub part_at : (s : Shelf) (m : Maps) (pid : ℕ) (x : SegmentRegisters) (r : Sreg) → AreInside s → AreNamed s m → AreLoaded s m pid x → IsPart s (register_in x r).descriptor (in_register (registers_of m pid x) r)
part_at s m pid x Es i n l = part_is s m pid x.es i n l.es
part_at s m pid x Cs i n l = part_is s m pid x.cs i n l.cs
part_at s m pid x Ss i n l = part_is s m pid x.ss i n l.ss
part_at s m pid x Ds i n l = part_is s m pid x.ds i n l.ds

pub part_bytes : (s : Shelf) (d : Descriptor) (h : Hold) → HasPart s d h → bytes_in s h.name ≡ part s.memory d.base (d.limit + 1)
part_bytes s d h p = ap (bytes_under s) p.named ∙ (ap (λ (o : Option (ℕ × ℕ)). bytes_from s.memory o (entry s p.key).size) p.place ∙ ap (part s.memory d.base) (sym p.size))

pub part_present : (s : Shelf) (d : Descriptor) (h : Hold) → HasPart s d h → present_in s h.name ≡ true
part_present s d h p = ap (present_under s) p.named ∙ ap is_some p.place

-- What a selector names.

-- a descriptor says of a hold whether it is in memory, and its size and rights
pub record HasHold (s : Shelf) (d : Descriptor) (h : Hold) : Type 0 where
  pub access : unmarked d.access ≡ with_present h.rights (present_in s h.name)
  pub size : d.limit + 1 ≡ size_in s h.name

abbrev pub Matches : Shelf → Option Descriptor → Option Hold → Type 0
Matches s None None = Unit {0}
Matches s None (Some h) = ⊥
Matches s (Some d) None = ⊥
Matches s (Some d) (Some h) = HasHold s d h

matches_at : (s : Shelf) (m : Maps) (pid i : ℕ) → AreNamed s m → IsSettled s m → (o : Option Held) → held_at m pid i ≡ o → Matches s (descriptor_of o (table_of m pid) i) (option_map (hold_of m pid i) o)
matches_at s m pid i n t None e = tt
matches_at s m pid i n t (Some h) e =
    let d = subst (λ (o : Option Held). IsSettledAt s o (descriptor_at m pid i)) e (t pid i) in
    let k = n pid i h e in
    record {
      access = d.access ∙ ap (with_present (rights_of (descriptor_at m pid i).access)) (sym (ap (present_under s) k));
      size = d.limit ∙ sym (ap (size_under s) k);
    }

pub matched : (s : Shelf) (m : Maps) (pid sel : ℕ) → AreNamed s m → IsSettled s m → Matches s (named_descriptor m pid sel) (found_in (hold_in m pid) sel)
matched s m pid sel n t = subst (λ (o : Option Hold). Matches s (named_descriptor m pid sel) o) (sym (found_is m pid sel)) (go (is_local sel))
  where
    go : (b : Bool) → Matches s (cond b (descriptor_of (held_at m pid (sel / 8)) (table_of m pid) (sel / 8)) None) (option_map (hold_of m pid (sel / 8)) (cond b (held_at m pid (sel / 8)) None))
    go true = matches_at s m pid (sel / 8) n t (held_at m pid (sel / 8)) refl
    go false = tt

-- a selector that is null or names a segment in memory loads its descriptor
pub loaded_is : (s : Shelf) (m : Maps) (pid sel : ℕ) → AreNamed s m → IsSettled s m → present_or_none (present_in s) (bound_in (hold_in m pid) sel) ≡ true
    → IsLoaded s m pid (record { selector = sel; descriptor = loaded_descriptor m pid sel })
loaded_is s m pid sel n t p =
    go (is_null sel) (is_local sel) (held_at m pid (sel / 8)) refl (subst (λ (o : Option Hold). present_or_none (present_in s) o ≡ true) (bound_is m pid sel) p)
  where
    go : (a b : Bool) (o : Option Held) → held_at m pid (sel / 8) ≡ o → present_or_none (present_in s) (option_map (hold_of m pid (sel / 8)) (cond a None (cond b o None))) ≡ true
        → IsLoadedAs s (rights_of (descriptor_at m pid (sel / 8)).access) (cond a None (cond b o None)) (cond a (record {
          base = 0;
          limit =
              0;
          access = 0;
        }) (or_empty (cond b (descriptor_of o (table_of m pid) (sel / 8)) None)))
    go true b o e q = refl
    go false false o e q = refl
    go false true None e q = refl
    go false true (Some h) e q =
        (sym (ap (present_under s) (n pid (sel / 8) h e)) ∙ q, subst (λ (o : Option Held). IsSettledAt s o (descriptor_at m pid (sel / 8))) e (t pid (sel / 8)))

-- the registers of a processor, each of which is null or names a segment in memory
pub opened : (s : Shelf) (m : Maps) (pid : ℕ) (c : Cpu) → AreNamed s m → IsSettled s m → IsBound (seen s m pid c) → AreLoaded s m pid (opened_registers m pid c)
unfolding seen_with
opened s m pid c n t b = record {
  es = loaded_is s m pid c.es n t (b Es);
  cs = loaded_is s m pid c.cs n t (b Cs);
  ss = loaded_is s m pid c.ss n t (b Ss);
  ds = loaded_is s m pid c.ds n t (b Ds);
}
