-- What a call writes is held as data that can be written.
use Rattle.std.proofs.Common.{◌≡◌, ◌⊎◌, inl, inr, ℕ, ◌/◌, Bool, true, false, cond, ◌&&◌, ◌==◌, List, [], length, ap, sym, ◌∙◌, refl, arith}
use Rattle.std.specs.Prelude.{Option, Some, None}
use Rattle.o2_isa.specs.declared.cpu.Cpu.{Cpu}
use Rattle.o2_isa.specs.Parts.{put_part}
use Rattle.o2_isa.specs.declared.instr.Sreg.{Sreg}
use Rattle.o2_isa.specs.declared.instr.Sreg.TheVariants.{Es, Cs, Ss, Ds}
use Rattle.o2_isa.specs.View.{View, Hold, Registers, Agrees, bound_in, bound_registers, in_register, is_null, is_local, is_writable}
use Rattle.o2_isa.specs.Registers.{sreg}
use Rattle.o2_isa.specs.Writes.{HoldsAsWritable, WritesData}
use Rattle.o2_isa.proofs.Alike.{bound_made}
use Rattle.o2_isa.specs.Pointers.{has_present_range, is_ready, put_in, put_at_pointer, with_part, KeepsAllButBytes}
use Rattle.o2_isa.specs.Presence.{SameSelectors}
use Rattle.o2_bus.specs.Writes.{HoldsForWriting, WritesHeld}
use Rattle.o2_gate.proofs.Stores.{held_range}

-- what a selector binds is held in the map
in_map : (held : ℕ → Option Hold) (s : ℕ) (h : Hold) → bound_in held s ≡ Some h → held (s / 8) ≡ Some h
in_map held s h e = go (is_null s) (is_local s) e
  where
    none_some : None ≡ Some h → ⊥
    none_some p = cc

    go : (x y : Bool) → cond x None (cond y (held (s / 8)) None) ≡ Some h → held (s / 8) ≡ Some h
    go true y q = absurd (none_some q)
    go false true q = q
    go false false q = absurd (none_some q)

good_rights : (a b c : Bool) → (a && (b && c)) ≡ true → b ≡ true
good_rights a b c e = grind arith

same_number : (n m : ℕ) → (n == m) ≡ true → m ≡ n
same_number n m e = grind arith

-- a write behind a pointer that is ready
pub put_writes : (v : View) (s o : ℕ) (part : List ℕ) → (length part == 0) ≡ false → is_ready is_writable v s o (length part) ≡ true → WritesHeld v (with_part v s o part)
unfolding put_at_pointer
put_writes v s o part some ready n = go (bound_in v.held s) refl (held_range (record { blocks = λ k. []; hidden = v.hidden }) v s o part some ready)
  where
    go : (h : Option Hold) → bound_in v.held s ≡ h → has_present_range is_writable v o (length part) h ≡ true → (put_in v.bytes o part h n ≡ v.bytes n) ⊎ HoldsForWriting v n
    go None is e = absurd (cc)
    go (Some h) is e = at (n == h.name) refl
      where
        at : (b : Bool) → (n == h.name) ≡ b → (cond b (put_part (v.bytes n) o part) (v.bytes n) ≡ v.bytes n) ⊎ HoldsForWriting v n
        at true q = inr (record { index = s / 8; hold = h; there = in_map v.held s h is; named = same_number n h.name q; writable = good_rights _ _ _ e })
        at false q = inl refl

pub writes_none : (v w : View) → w ≡ v → WritesHeld v w
writes_none v w e n = inl (ap (λ (x : View). x.bytes n) e)

-- one write behind another
pub writes_then : (v w x : View) → w.held ≡ v.held → WritesHeld v w → WritesHeld w x → WritesHeld v x
writes_then v w x keeps first second n = go (first n) (second n)
  where
    back : HoldsForWriting w n → HoldsForWriting v n
    back h = record { index = h.index; hold = h.hold; there = sym (ap (λ (m : ℕ → Option Hold). m h.index) keeps) ∙ h.there; named = h.named; writable = h.writable }

    go : (w.bytes n ≡ v.bytes n) ⊎ HoldsForWriting v n → (x.bytes n ≡ w.bytes n) ⊎ HoldsForWriting w n → (x.bytes n ≡ v.bytes n) ⊎ HoldsForWriting v n
    go (inl a) (inl b) = inl (b ∙ a)
    go (inr h) b = inr h
    go (inl a) (inr h) = inr (back h)

-- what a segment register holds as data that can be written, the process holds so
pub writes_data : (v w : View) (c : Cpu) → Agrees c v → WritesData v w → WritesHeld v w
writes_data v w c a d n = go (d n)
  where
    by_register : (r : Sreg) → in_register (bound_registers v.held c) r ≡ bound_in v.held (sreg c r)
    by_register Es = refl
    by_register Cs = refl
    by_register Ss = refl
    by_register Ds = refl

    go : (w.bytes n ≡ v.bytes n) ⊎ HoldsAsWritable v n → (w.bytes n ≡ v.bytes n) ⊎ HoldsForWriting v n
    go (inl e) = inl e
    go (inr h) =
        inr (record {
          index = sreg c h.register / 8;
          hold = h.hold;
          there = in_map v.held (sreg c h.register) h.hold (sym (ap (λ (z : Registers). in_register z h.register) a ∙ by_register h.register) ∙ h.there);
          named = h.named;
          writable = h.writable;
        })

-- the bus's registers go on to be those of the processor
pub agrees_then : (c d : Cpu) (v w : View) → KeepsAllButBytes v w → SameSelectors c d → Agrees c v → Agrees d w
agrees_then c d v w keeps same a =
    ap (λ (x : View). x.registers) keeps
    ∙ a
    ∙ bound_made v.held c d same
    ∙ sym (ap (λ (x : View). bound_registers x.held d) keeps)
