-- An accessed bit changes nothing that the bus shows.
use Rattle.std.proofs.Common.{◌≡◌, ◌⊎◌, inl, inr, ◌/◌, refl, sym, ap, subst, ◌∙◌, ℕ, zero, suc, Bool, true, false, cond, List, [], ◌∷◌, length, map, get_or, set, arith, IsSome}
use Rattle.std.specs.Prelude.{Option, Some, None, option_map, is_some}
use Rattle.std.specs.Borrow.{GName}
use Rattle.std.proofs.lemmas.Bool.{cases_lt, cases_eq, false≢true}
use Rattle.std.proofs.lemmas.List.{get_or-set_other, get_or-set_same, get_or_past, length-set}
use mathlib.Core.Path.{fun_ext}
use Rattle.o2_desc.specs.declared.descriptor.Descriptor.{Descriptor}
use Rattle.o2_desc.specs.Bits.{marked, rights_of, with_present}
use Rattle.o2_desc.specs.Bytes.{empty, mark_at}
use Rattle.o2_isa.specs.declared.instr.Sreg.{Sreg}
use Rattle.o2_isa.specs.declared.instr.Sreg.TheVariants.{Es, Cs, Ss, Ds}
use Rattle.o2_isa.specs.View.{View, Hold, Registers, bound_in, with_register, bind, is_null, is_local, built_gates, no_rest, found_in, is_loadable}
use Rattle.o2_base.specs.declared.selector.Selector.{Selector}
use Rattle.o2_regions.specs.declared.held.Held.{Held}
use Rattle.o2_regions.specs.Maps.{Maps, held_at, table_of, IsProcess}
use Rattle.o2_store.specs.Shelf.{Shelf, place_of}
use Rattle.o2_segbus.specs.declared.registers.SegmentRegister.{SegmentRegister}
use Rattle.o2_segbus.specs.declared.registers.SegmentRegisters.{SegmentRegisters}
use Rattle.o2_segbus.specs.Registers.{with_register_in}
use Rattle.o2_segbus.specs.Settled.{IsSettled, IsSettledAt, descriptor_at}
use Rattle.o2_segbus.specs.Seen.{hold_in, hold_of, seen_with, size_in, present_in, gone_in, bytes_in, AreNamed}
use Rattle.o2_segbus.specs.Bus.{held_under, IsLoadedAs, IsLoaded, AreLoaded, registers_of, bus_hidden, bus_view}
use Rattle.o2_segbus.specs.Kept.{bit, entries_told, held_told, lengths_of, marks_told, numbers_told, ranges_told}
use Rattle.o2_segbus.specs.Marking.{with_mark, with_mark_of}
use Rattle.o2_segbus.proofs.Bits.{unmarked_marked, rights_marked}
use Rattle.o2_segbus.specs.Words.{loaded_descriptor}
use Rattle.o2_segbus.proofs.Holds.{found_is}
use Rattle.o2_segbus.proofs.Rulings.{load_loads, load_held}

-- the descriptor with its accessed bit set
abbrev pub touched : Descriptor → Descriptor
touched d = record d { access = marked d.access }

-- a descriptor is as it was, or it is the one that was marked
pub record Marks (m n : Maps) (pid i q j : ℕ) : Type 0 where
  pub here : (q ≡ pid) × (j ≡ i)
  pub mark : descriptor_at n q j ≡ touched (descriptor_at m q j)

in_table : (t : List Descriptor) (i j : ℕ) → (get_or (mark_at t i) j empty ≡ get_or t j empty) ⊎ ((j ≡ i) × (get_or (mark_at t i) j empty ≡ touched (get_or t j empty)))
in_table t i j = elim (cases_eq j i) [
  | inr n ↦ inl (get_or-set_other t i j _ empty n)
  | inl e ↦ elim (cases_lt j (length t)) [
    | inl l ↦ inr (e, subst (λ (k : ℕ). get_or (mark_at t k) j empty ≡ touched (get_or t j empty)) e (get_or-set_same t j _ empty l))
    | inr l ↦ inl (get_or_past (mark_at t i) j empty (omega (arith, l, length-set t i (touched (get_or t i empty)))) ∙ sym (get_or_past t j empty l))
  ]
]

pub marks : (m : Maps) (pid i q j : ℕ) → (descriptor_at (with_mark m pid i) q j ≡ descriptor_at m q j) ⊎ Marks m (with_mark m pid i) pid i q j
marks m pid i q j = elim (cases_eq q pid) [
  | inr n ↦ inl (ap (λ (t : List Descriptor). get_or t j empty) (get_or-set_other m.tables pid q _ [] n))
  | inl e ↦ elim (cases_lt q (length m.tables)) [
    | inr l ↦ inl (ap (λ (t : List Descriptor). get_or t j empty) (get_or_past (set m.tables pid (mark_at (table_of m pid) i)) q [] (omega (arith, l, length-set m.tables pid (mark_at (table_of m pid) i))) ∙ sym (get_or_past m.tables q [] l)))
    | inl l ↦ by_table e (subst (λ (p : ℕ). table_of (with_mark m p i) q ≡ mark_at (table_of m q) i) e (get_or-set_same m.tables q (mark_at (table_of m q) i) [] l))
  ]
]
  where
    by_table : q ≡ pid → table_of (with_mark m pid i) q ≡ mark_at (table_of m q) i → (descriptor_at (with_mark m pid i) q j ≡ descriptor_at m q j) ⊎ Marks m (with_mark m pid i) pid i q j
    by_table e t = elim (in_table (table_of m q) i j) [
      | inl s ↦ inl (ap (λ (z : List Descriptor). get_or z j empty) t ∙ s)
      | inr s ↦ inr (record { here = (e, s.0); mark = ap (λ (z : List Descriptor). get_or z j empty) t ∙ s.1 })
    ]

-- rights stay
pub same_rights : (m : Maps) (pid i q j : ℕ) → rights_of (descriptor_at (with_mark m pid i) q j).access ≡ rights_of (descriptor_at m q j).access
same_rights m pid i q j = elim (marks m pid i q j) [
  | inl s ↦ ap (λ (d : Descriptor). rights_of d.access) s
  | inr k ↦ ap (λ (d : Descriptor). rights_of d.access) k.mark ∙ rights_marked (descriptor_at m q j).access
]

same_hold : (m : Maps) (pid i q j : ℕ) → hold_in (with_mark m pid i) q j ≡ hold_in m q j
unfolding hold_in
same_hold m pid i q j = ap (λ (r : ℕ). option_map (λ (h : Held). record { name = h.id.age; rights = r }) (held_at m q j)) (same_rights m pid i q j)

pub same_holds : (m : Maps) (pid i : ℕ) → hold_in (with_mark m pid i) ≡ hold_in m
same_holds m pid i = fun_ext (λ q. fun_ext (λ j. same_hold m pid i q j))

touched_at : (s : Shelf) (o : Option Held) (d : Descriptor) → IsSome o → IsSettledAt s o d → IsSettledAt s o (touched d)
touched_at s None d some h = absurd (false≢true some)
touched_at s (Some x) d some h = record {
  base = h.base;
  limit = h.limit;
  access = unmarked_marked d.access ∙ (h.access ∙ ap (λ (r : ℕ). with_it r) (sym (rights_marked d.access)));
}
  where
    with_it : ℕ → ℕ
    with_it r = with_present r (is_some (place_of s x.id.key))

pub settled_marked : (s : Shelf) (m : Maps) (pid i : ℕ) → IsSettled s m → IsSome (held_at m pid i) → IsSettled s (with_mark m pid i)
settled_marked s m pid i h some q j = elim (marks m pid i q j) [
  | inl e ↦ subst (λ (d : Descriptor). IsSettledAt s (held_at m q j) d) (sym e) (h q j)
  | inr k ↦ subst (λ (d : Descriptor). IsSettledAt s (held_at m q j) d) (sym k.mark) (touched_at s (held_at m q j) (descriptor_at m q j) (there k.here.0 k.here.1) (h q j))
]
  where
    there : q ≡ pid → j ≡ i → IsSome (held_at m q j)
    there a b = subst (λ (z : ℕ). IsSome (held_at m z j)) (sym a) (subst (λ (z : ℕ). IsSome (held_at m pid z)) (sym b) some)

loaded_marked : (s : Shelf) (m : Maps) (pid i : ℕ) (x : SegmentRegister) → IsLoaded s m pid x → IsLoaded s (with_mark m pid i) pid x
loaded_marked s m pid i x l = subst (λ (r : ℕ). IsLoadedAs s r (held_under m pid x.selector) x.descriptor) (sym (same_rights m pid i pid (x.selector / 8))) l

pub loads_marked : (s : Shelf) (m : Maps) (pid i : ℕ) (x : SegmentRegisters) → AreLoaded s m pid x → AreLoaded s (with_mark m pid i) pid x
loads_marked s m pid i x l = record {
  es = loaded_marked s m pid i x.es l.es;
  cs = loaded_marked s m pid i x.cs l.cs;
  ss = loaded_marked s m pid i x.ss l.ss;
  ds = loaded_marked s m pid i x.ds l.ds;
}

-- the tables stay as long as they are
set_lengths : (ts : List (List Descriptor)) (k : ℕ) (t : List Descriptor) → length t ≡ length (get_or ts k []) → lengths_of (set ts k t) ≡ lengths_of ts
set_lengths [] k t e = refl
set_lengths (u ∷ us) zero t e = ap (λ (n : ℕ). n ∷ lengths_of us) e
set_lengths (u ∷ us) (suc k) t e = ap (λ (ns : List ℕ). length u ∷ ns) (set_lengths us k t e)

marked_lengths : (m : Maps) (pid i : ℕ) → lengths_of (with_mark m pid i).tables ≡ lengths_of m.tables
marked_lengths m pid i = set_lengths m.tables pid (mark_at (table_of m pid) i) (length-set (table_of m pid) i (touched (get_or (table_of m pid) i empty)))

-- the tables as lists of numbers, by how long those of descriptors are
abbrev planes_by : Shelf → Maps → List ℕ → List (List ℕ)
planes_by s m lengths =
    numbers_told s m ∷ ranges_told s.places.ranges ∷ marks_told s.turns.marks ∷ s.turns.places ∷ entries_told s.entries ∷ s.keys ∷ held_told m.held ∷ map bit m.reserved ∷
    lengths ∷ s.swap.lists

-- a bus by what its maps hold, and by how long its tables are
abbrev shown_by : GName → GName → Shelf → Maps → (ℕ → ℕ → Option Hold) → List ℕ → ℕ → SegmentRegisters → View
shown_by g t s m held lengths pid x = record {
  held = held pid;
  gate = built_gates;
  size = size_in s;
  present = present_in s;
  discarded = gone_in s;
  bytes = bytes_in s;
  registers = record { es = bound_in (held pid) x.es.selector; cs = bound_in (held pid) x.cs.selector; ss = bound_in (held pid) x.ss.selector; ds = bound_in (held pid) x.ds.selector };
  rest = record no_rest {
    maps = held;
    memory = length s.memory;
    first = λ k j. get_or (get_or (planes_by s m lengths) k []) j 0;
    reserved_run = λ k j. length (get_or (planes_by s m lengths) k []);
  };
  hidden = bus_hidden g t;
}

view_marked : (g t : GName) (s : Shelf) (m : Maps) (pid i : ℕ) (x : SegmentRegisters) → bus_view g t s (with_mark m pid i) pid x ≡ bus_view g t s m pid x
unfolding bus_view seen_with
view_marked g t s m pid i x =
    ap (λ (held : ℕ → ℕ → Option Hold). shown_by g t s m held (lengths_of (with_mark m pid i).tables) pid x) (same_holds m pid i)
    ∙ ap (λ (lengths : List ℕ). shown_by g t s m (hold_in m) lengths pid x) (marked_lengths m pid i)

-- the mark of a selector, which may be null
pub view_named : (g t : GName) (s : Shelf) (m : Maps) (pid sel : ℕ) (x : SegmentRegisters) → bus_view g t s (with_mark_of m pid sel) pid x ≡ bus_view g t s m pid x
view_named g t s m pid sel x = go (is_null sel)
  where
    go : (b : Bool) → bus_view g t s (cond b m (with_mark m pid (sel / 8))) pid x ≡ bus_view g t s m pid x
    go true = refl
    go false = view_marked g t s m pid (sel / 8) x

pub by_null : (P : Maps → Type 0) (m : Maps) (pid sel : ℕ) → P m → (is_null sel ≡ false → P (with_mark m pid (sel / 8))) → P (with_mark_of m pid sel)
by_null P m pid sel a f = go (is_null sel) refl
  where
    go : (b : Bool) → is_null sel ≡ b → P (cond b m (with_mark m pid (sel / 8)))
    go true e = a
    go false e = f e

-- what a local selector names is held
pub named_held : (m : Maps) (pid sel : ℕ) (h : Hold) → found_in (hold_in m pid) sel ≡ Some h → IsSome (held_at m pid (sel / 8))
named_held m pid sel h e = go (is_local sel) (held_at m pid (sel / 8)) (sym (found_is m pid sel) ∙ e)
  where
    go : (b : Bool) (o : Option Held) → option_map (hold_of m pid (sel / 8)) (cond b o None) ≡ Some h → IsSome o
    go true None q = absurd (none_some q)
      where
        none_some : None ≡ Some h → ⊥
        none_some p = cc
    go true (Some x) q = refl
    go false o q = absurd (none_some q)
      where
        none_some : None ≡ Some h → ⊥
        none_some p = cc

-- Registers.

pub loads_with : (s : Shelf) (m : Maps) (pid : ℕ) (x : SegmentRegisters) (r : Sreg) (y : SegmentRegister) → AreLoaded s m pid x → IsLoaded s m pid y → AreLoaded s m pid (with_register_in x r y)
loads_with s m pid x Es y l k = record { es = k; cs = l.cs; ss = l.ss; ds = l.ds }
loads_with s m pid x Cs y l k = record { es = l.es; cs = k; ss = l.ss; ds = l.ds }
loads_with s m pid x Ss y l k = record { es = l.es; cs = l.cs; ss = k; ds = l.ds }
loads_with s m pid x Ds y l k = record { es = l.es; cs = l.cs; ss = l.ss; ds = k }

registers_with : (m : Maps) (pid : ℕ) (x : SegmentRegisters) (r : Sreg) (y : SegmentRegister) → registers_of m pid (with_register_in x r y) ≡ with_register (registers_of m pid x) r (bound_in (hold_in m pid) y.selector)
registers_with m pid x Es y = refl
registers_with m pid x Cs y = refl
registers_with m pid x Ss y = refl
registers_with m pid x Ds y = refl

pub view_with : (g t : GName) (s : Shelf) (m : Maps) (pid : ℕ) (x : SegmentRegisters) (r : Sreg) (d : Descriptor) (sel : Selector)
    → bus_view g t s m pid (with_register_in x r (record { selector = sel.0; descriptor = d })) ≡ bind (bus_view g t s m pid x) r sel
unfolding bind bus_view seen_with
view_with g t s m pid x r d sel = ap (λ (z : Registers). record (bus_view g t s m pid x) { registers = z }) (registers_with m pid x r (record { selector = sel.0; descriptor = d }))

-- what a load leaves of all that a bus keeps
pub record IsKept (s : Shelf) (m : Maps) (pid : ℕ) (x : SegmentRegisters) : Type 0 where
  pub process : IsProcess m pid
  pub named : AreNamed s m
  pub settled : IsSettled s m
  pub loaded : AreLoaded s m pid x

pub load_keeps : (g t : GName) (s : Shelf) (m : Maps) (pid : ℕ) (x : SegmentRegisters) (r : Sreg) (sel : Selector) → IsProcess m pid → AreNamed s m → IsSettled s m → AreLoaded s m pid x → is_loadable (bus_view g t s m pid x) sel ≡ true
    → IsKept s (with_mark_of m pid sel.0) pid (with_register_in x r (record { selector = sel.0; descriptor = loaded_descriptor m pid sel.0 }))
load_keeps g t s m pid x r sel p n q l h =
    let y : SegmentRegister = record { selector = sel.0; descriptor = loaded_descriptor m pid sel.0 } in
    let w : AreLoaded s m pid (with_register_in x r y) = loads_with s m pid x r y l (load_loads g t s m pid x sel n q h) in
    by_null (λ (z : Maps). IsKept s z pid (with_register_in x r y)) m pid sel.0
    (record { process = p; named = n; settled = q; loaded = w })
    (λ e. (let f = load_held g t s m pid x sel h e in record {
      process = p;
      named = n;
      settled = settled_marked s m pid (sel.0 / 8) q (named_held m pid sel.0 f.0 f.1);
      loaded = loads_marked s m pid (sel.0 / 8) (with_register_in x r y) w;
    }))
