-- From the view of a bus to what its store and its tables hold.
use Rattle.std.proofs.Common.{◌≡◌, ◌⊎◌, inl, inr, refl, sym, ◌∙◌, ap, subst, ℕ, true, List, [], length, get_or, arith}
use Rattle.std.specs.Prelude.{Option, Some, None, is_some, option_map}
use Rattle.std.specs.Borrow.{GName}
use Rattle.std.proofs.lemmas.List.{ext_get_or}
use Rattle.o2_desc.specs.declared.descriptor.Descriptor.{Descriptor}
use Rattle.o2_desc.specs.Bits.{rights_of, with_present, unmarked}
use Rattle.o2_isa.specs.declared.cpu.Cpu.{Cpu}
use Rattle.o2_isa.specs.declared.cpu.Outcome.{Outcome}
use Rattle.o2_isa.specs.declared.instr.Sreg.{Sreg}
use Rattle.o2_isa.specs.View.{View, Hold, Hidden, Rest, Registers, KeepsFrame, IsBound, Agrees, bound_registers, present_or_none, in_register, built_gates, no_rest, no_hidden}
use Rattle.o2_isa.specs.Steps.{State, state}
use Rattle.o2_isa.specs.Presence.{unseen}
use Rattle.o2_isa.specs.Step.{Answers, stepped}
use Rattle.o2_isa.proofs.StepLaws.{answers_unseen}
use Rattle.o2_regions.specs.declared.held.Held.{Held}
use Rattle.o2_regions.specs.Maps.{Maps, held_at, IsProcess}
use Rattle.o2_store.specs.Shelf.{Shelf, entry, place_of}
use Rattle.o2_segbus.specs.declared.registers.SegmentRegisters.{SegmentRegisters}
use Rattle.o2_segbus.specs.Settled.{IsSettled, IsSettledAt, descriptor_at, start_of}
use Rattle.o2_segbus.specs.Seen.{AreNamed, hold_in, hold_of, size_in, present_in, gone_in, bytes_in, seen_with, seen, seen_state}
use Rattle.o2_segbus.specs.Bus.{AreLoaded, AreInside, registers_of, bus_view}
use Rattle.o2_segbus.specs.Kept.{planes}
use Rattle.o2_segbus.specs.Registers.{register_in}
use Rattle.o2_segbus.specs.Frames.{KeepsStore, KeepsMaps}
use Rattle.o2_segbus.proofs.Told.{SameTold, told}
use Rattle.o2_segbus.proofs.Holds.{IsPart, part_at, part_present}

-- what the frame says of store and tables, and that the bus holds the same references
pub record Framed (g g' t t' : GName) (s s' : Shelf) (m m' : Maps) (pid pid' : ℕ) : Type 0 where
  pub store : g' ≡ g
  pub tables : t' ≡ t
  pub index : hold_in m' pid' ≡ hold_in m' pid
  pub holds : hold_in m' ≡ hold_in m
  pub told : SameTold s s' m m'
  pub size : length s'.memory ≡ length s.memory

pub framed : (g g' t t' : GName) (s s' : Shelf) (m m' : Maps) (pid pid' : ℕ) (x x' : SegmentRegisters) → KeepsFrame (bus_view g t s m pid x) (bus_view g' t' s' m' pid' x') → Framed g g' t t' s s' m m' pid pid'
unfolding bus_view seen_with
framed g g' t t' s s' m m' pid pid' x x' f =
    let holds : hold_in m' ≡ hold_in m = ap (λ (r : Rest). r.maps) f.rest in
    record {
      store = name_is g' g (ap (λ (h : Hidden). h.store) f.hidden);
      tables = name_is t' t (ap (λ (h : Hidden). h.tables) f.hidden);
      index = f.held ∙ sym (ap (λ (h : ℕ → ℕ → Option Hold). h pid) holds);
      holds = holds;
      told = told s s' m m' (λ k. same_plane k);
      size = ap (λ (r : Rest). r.memory) f.rest;
    }
  where
    name_is : (a b : GName) → Some a ≡ Some b → a ≡ b
    name_is a b e = cc

    same_plane : (k : ℕ) → get_or (planes s' m') k [] ≡ get_or (planes s m) k []
    same_plane k =
        ext_get_or 0 (get_or (planes s' m') k []) (get_or (planes s m) k []) (ap (λ (r : Rest). r.reserved_run k 0) f.rest)
        (λ j l. ap (λ (r : Rest). r.first k j) f.rest)

-- the state of a bus is what is seen of its store and tables, without what no instruction sees
abbrev seen_by : Shelf → (ℕ → Option Hold) → Registers → View
seen_by s held registers = record {
  held = held;
  gate = built_gates;
  size = size_in s;
  present = present_in s;
  discarded = gone_in s;
  bytes = bytes_in s;
  registers = registers;
  rest = no_rest;
  hidden = no_hidden;
}

pub state_is : (g t : GName) (s : Shelf) (m : Maps) (pid pid' : ℕ) (x : SegmentRegisters) (c : Cpu) → hold_in m pid' ≡ hold_in m pid → Agrees c (bus_view g t s m pid' x) → unseen no_rest no_hidden (state c (bus_view g t s m pid' x)) ≡ seen_state s m pid c
unfolding bus_view seen_with
state_is g t s m pid pid' x c e a =
    ap (λ (r : Registers). state c (seen_by s (hold_in m pid') r)) a
    ∙ ap (λ (h : ℕ → Option Hold). state c (seen_by s h (bound_registers h c))) e

pub agrees_at : (g t : GName) (s : Shelf) (m : Maps) (pid : ℕ) (x : SegmentRegisters) (c : Cpu) → registers_of m pid x ≡ bound_registers (hold_in m pid) c → Agrees c (bus_view g t s m pid x)
unfolding bus_view seen_with
agrees_at g t s m pid x c e = e

pub seen_answers : (o : Outcome) (g g' t t' : GName) (s s' : Shelf) (m m' : Maps) (pid pid' : ℕ) (x x' : SegmentRegisters) (c c' : Cpu) → Framed g g' t t' s s' m m' pid pid' → Agrees c (bus_view g t s m pid x) → Agrees c' (bus_view g' t' s' m' pid' x')
    → Answers o (state c' (bus_view g' t' s' m' pid' x')) (state c (bus_view g t s m pid x)) (stepped (state c (bus_view g t s m pid x)))
    → Answers o (seen_state s' m' pid c') (seen_state s m pid c) (stepped (seen_state s m pid c))
seen_answers o g g' t t' s s' m m' pid pid' x x' c c' f a a' r =
    subst (λ (z : State). Answers o z (seen_state s m pid c) (stepped (seen_state s m pid c))) (state_is g' t' s' m' pid pid' x' c' f.index a')
    (subst (λ (z : State). Answers o (unseen no_rest no_hidden (state c' (bus_view g' t' s' m' pid' x'))) z (stepped z)) (state_is g t s m pid pid x c refl a)
    (answers_unseen no_rest no_hidden o (state c' (bus_view g' t' s' m' pid' x')) (state c (bus_view g t s m pid x)) r))

pub keeps_store : (g g' t t' : GName) (s s' : Shelf) (m m' : Maps) (pid pid' : ℕ) → Framed g g' t t' s s' m m' pid pid' → KeepsStore s s'
keeps_store g g' t t' s s' m m' pid pid' f = record { store = f.told.store; size = f.size }

-- two descriptors that agree with the same segment
record SameBut (d e : Descriptor) : Type 0 where
  base : e.base ≡ d.base
  limit : e.limit ≡ d.limit
  access : unmarked e.access ≡ unmarked d.access

same_at : (s s' : Shelf) (o : Option Held) (d e : Descriptor) → s' ≡ record s { memory = s'.memory } → IsSettledAt s o d → IsSettledAt s' o e → rights_of e.access ≡ rights_of d.access ⊎ (o ≡ None) → SameBut d e
same_at s s' None d e w p q r = record { base = ap (λ (z : Descriptor). z.base) (q ∙ sym p); limit = ap (λ (z : Descriptor). z.limit) (q ∙ sym p); access = ap (λ (z : Descriptor). unmarked z.access) (q ∙ sym p) }
same_at s s' (Some h) d e w p q (inr r) = absurd (none_some (sym r))
  where
    none_some : None ≡ Some h → ⊥
    none_some z = cc
same_at s s' (Some h) d e w p q (inl r) =
    let place : place_of s' h.id.key ≡ place_of s h.id.key = ap (λ (z : Shelf). place_of z h.id.key) w in
    let size : (entry s' h.id.key).size ≡ (entry s h.id.key).size = ap (λ (z : Shelf). (entry z h.id.key).size) w in
    record {
      base = q.base ∙ (ap start_of place ∙ sym p.base);
      limit = omega (arith, p.limit, q.limit, size);
      access = q.access ∙ (ap (λ (o : Option (ℕ × ℕ)). with_present (rights_of e.access) (is_some o)) place ∙ (ap (λ (a : ℕ). with_present a (is_some (place_of s h.id.key))) r ∙ sym p.access));
    }

held_same : (m m' : Maps) (pid i : ℕ) → m'.held ≡ m.held → held_at m' pid i ≡ held_at m pid i
held_same m m' pid i e = ap (λ (h : List (Option Held)). held_at (record m { held = h }) pid i) e

rights_same : (m m' : Maps) (pid i : ℕ) (o : Option Held) → held_at m pid i ≡ o → held_at m' pid i ≡ o → hold_in m' pid i ≡ hold_in m pid i → (rights_of (descriptor_at m' pid i).access ≡ rights_of (descriptor_at m pid i).access) ⊎ (o ≡ None)
unfolding hold_in
rights_same m m' pid i None a b e = inr refl
rights_same m m' pid i (Some h) a b e =
    inl (ap rights_or (sym (ap (λ (o : Option Held). option_map (hold_of m' pid i) o) b) ∙ (e ∙ ap (λ (o : Option Held). option_map (hold_of m pid i) o) a)))
  where
    rights_or : Option Hold → ℕ
    rights_or None = 0
    rights_or (Some x) = x.rights

pub keeps_maps : (g g' t t' : GName) (s s' : Shelf) (m m' : Maps) (pid pid' : ℕ) → Framed g g' t t' s s' m m' pid pid' → IsSettled s m → IsSettled s' m' → KeepsMaps m m'
keeps_maps g g' t t' s s' m m' pid pid' f p q = record {
  processes = f.told.processes;
  held = f.told.held;
  reserved = f.told.reserved;
  base = λ a i. (same a i).base;
  limit = λ a i. (same a i).limit;
  access = λ a i. (same a i).access;
  lengths = f.told.lengths;
}
  where
    same : (a i : ℕ) → SameBut (descriptor_at m a i) (descriptor_at m' a i)
    same a i =
        same_at s s' (held_at m a i) (descriptor_at m a i) (descriptor_at m' a i) f.told.store (p a i)
        (subst (λ (o : Option Held). IsSettledAt s' o (descriptor_at m' a i)) (held_same m m' a i f.told.held) (q a i))
        (rights_same m m' a i (held_at m a i) refl (held_same m m' a i f.told.held) (ap (λ (h : ℕ → ℕ → Option Hold). h a i) f.holds))

-- what the registers hold is in memory
bound_by : (s : Shelf) (d : Descriptor) (o : Option Hold) → IsPart s d o → present_or_none (present_in s) o ≡ true
bound_by s d None p = refl
bound_by s d (Some h) p = part_present s d h p

pub bus_bound : (s : Shelf) (m : Maps) (pid : ℕ) (x : SegmentRegisters) → AreInside s → AreNamed s m → AreLoaded s m pid x → (r : Sreg) → present_or_none (present_in s) (in_register (registers_of m pid x) r) ≡ true
bus_bound s m pid x i n l r = bound_by s (register_in x r).descriptor (in_register (registers_of m pid x) r) (part_at s m pid x r i n l)

pub seen_bound : (g t : GName) (s : Shelf) (m : Maps) (pid pid' : ℕ) (x : SegmentRegisters) (c : Cpu) → hold_in m pid' ≡ hold_in m pid → Agrees c (bus_view g t s m pid' x) → AreInside s → AreNamed s m → AreLoaded s m pid' x → IsBound (seen s m pid c)
unfolding bus_view seen_with
seen_bound g t s m pid pid' x c e a i n l r =
    let w : registers_of m pid' x ≡ bound_registers (hold_in m pid) c = a ∙ ap (λ (h : ℕ → Option Hold). bound_registers h c) e in
    subst (λ (z : Registers). present_or_none (present_in s) (in_register z r) ≡ true) w (bus_bound s m pid' x i n l r)

pub still : (m m' : Maps) (pid : ℕ) → m'.processes ≡ m.processes → IsProcess m pid → IsProcess m' pid
still m m' pid e p = (p.0, omega (arith, e, p.1))
