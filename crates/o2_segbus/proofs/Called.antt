-- What a call over a bus leaves of store and tables, by the frame of the view.
use Rattle.std.proofs.Common.{◌≡◌, inl, inr, refl, sym, ◌∙◌, ap, ℕ, ◌/◌, Bool, true, false, cond}
use Rattle.std.specs.Prelude.{Option, Some, None}
use Rattle.o2_isa.specs.declared.cpu.Cpu.{Cpu}
use Rattle.o2_isa.specs.declared.cpu.Outcome.{Outcome}
use Rattle.o2_isa.specs.declared.instr.Sreg.{Sreg}
use Rattle.o2_isa.specs.declared.instr.Sreg.TheVariants.{Es, Cs, Ss, Ds}
use Rattle.o2_isa.specs.View.{View, Hold, Registers, KeepsFrame, IsBound, Agrees, in_register, bound_in, is_null, is_local, bound_registers}
use Rattle.o2_isa.specs.Steps.{state}
use Rattle.o2_isa.specs.Step.{Answers, stepped}
use Rattle.o2_isa.specs.Writes.{HoldsAsWritable, WritesData}
use Rattle.o2_isa.specs.Registers.{sreg}
use Rattle.o2_segbus.specs.declared.seg_bus.SegBus.{SegBus}
use Rattle.o2_segbus.specs.Seen.{hold_in, seen_state, seen_with}
use Rattle.o2_segbus.specs.Bus.{bus_view, registers_of}
use Rattle.o2_bus.specs.Writes.{HoldsForWriting, WritesHeld}
use Rattle.o2_segbus.specs.Calls.{LeavesBus, view_of}
use Rattle.o2_segbus.proofs.Attempts.{Framed, framed, agrees_at, bus_bound, seen_answers, keeps_store, keeps_maps, seen_bound, still}
use Rattle.o2_segbus.proofs.Cleans.{keeps_clean_held}

tied : (a b : SegBus) → KeepsFrame (view_of a) (view_of b) → Framed a.store.ghost_name b.store.ghost_name a.regions.ghost_name b.regions.ghost_name a.store.now b.store.now a.regions.now b.regions.now a.pid b.pid
tied a b f = framed a.store.ghost_name b.store.ghost_name a.regions.ghost_name b.regions.ghost_name a.store.now b.store.now a.regions.now b.regions.now a.pid b.pid a.registers b.registers f

pub leaves : (a b : SegBus) → KeepsFrame (view_of a) (view_of b) → LeavesBus a b
leaves a b f =
    let w : Framed a.store.ghost_name b.store.ghost_name a.regions.ghost_name b.regions.ghost_name a.store.now b.store.now a.regions.now b.regions.now a.pid b.pid = tied a b f in
    let s = keeps_store a.store.ghost_name b.store.ghost_name a.regions.ghost_name b.regions.ghost_name a.store.now b.store.now a.regions.now b.regions.now a.pid b.pid w in
    record {
      same_store = w.store;
      same_regions = w.tables;
      process = w.index;
      store = s;
      maps = keeps_maps a.store.ghost_name b.store.ghost_name a.regions.ghost_name b.regions.ghost_name a.store.now b.store.now a.regions.now b.regions.now a.pid b.pid w a.settled b.settled;
      clean = λ z. record { clean = λ pic aged guarded clean. keeps_clean_held a.store.ghost_name b.store.ghost_name a.regions.ghost_name b.regions.ghost_name a.store.now b.store.now a.regions.now b.regions.now a.pid b.pid a.registers b.registers pic s z a.named guarded aged clean };
      next = λ c e. record {
        process = still a.regions.now b.regions.now a.pid w.told.processes a.process;
        named = b.named;
        settled = b.settled;
        bound = seen_bound b.store.ghost_name b.regions.ghost_name b.store.now b.regions.now a.pid b.pid b.registers c w.index e b.inside b.named b.loaded;
      };
    }

-- what a bus holds in its registers is in memory
pub bound : (b : SegBus) → IsBound (view_of b)
unfolding bus_view seen_with
bound b r = bus_bound b.store.now b.regions.now b.pid b.registers b.inside b.named b.loaded r

-- a bus agrees with the processor from whose selectors it was made
pub agrees : (b : SegBus) (c : Cpu) → registers_of b.regions.now b.pid b.registers ≡ bound_registers (hold_in b.regions.now b.pid) c → Agrees c (view_of b)
agrees b c e = agrees_at b.store.ghost_name b.regions.ghost_name b.store.now b.regions.now b.pid b.registers c e

-- what is held in a register is held in the map
in_map : (held : ℕ → Option Hold) (sel : ℕ) (h : Hold) → bound_in held sel ≡ Some h → held (sel / 8) ≡ Some h
in_map held sel h e = go (is_null sel) (is_local sel) e
  where
    none_some : None ≡ Some h → ⊥
    none_some p = cc

    go : (x y : Bool) → cond x None (cond y (held (sel / 8)) None) ≡ Some h → held (sel / 8) ≡ Some h
    go true y q = absurd (none_some q)
    go false true q = q
    go false false q = absurd (none_some q)

by_register : (held : ℕ → Option Hold) (c : Cpu) (r : Sreg) → in_register (bound_registers held c) r ≡ bound_in held (sreg c r)
by_register held c Es = refl
by_register held c Cs = refl
by_register held c Ss = refl
by_register held c Ds = refl

held_so : (v : View) (c : Cpu) (n : ℕ) → Agrees c v → HoldsAsWritable v n → HoldsForWriting v n
held_so v c n a w = record {
  index = sreg c w.register / 8;
  hold = w.hold;
  there = in_map v.held (sreg c w.register) w.hold (sym (ap (λ (z : Registers). in_register z w.register) a ∙ by_register v.held c w.register) ∙ w.there);
  named = w.named;
  writable = w.writable;
}

-- what an instruction writes is held so
pub held_data : (v w : View) (c : Cpu) → Agrees c v → WritesData v w → WritesHeld v w
held_data v w c a d n = elim (d n) [
  | inl e ↦ inl e
  | inr h ↦ inr (held_so v c n a h)
]

-- a step over the bus is one over what is seen of store and tables
pub seen_step : (o : Outcome) (a b : SegBus) (c d : Cpu) → KeepsFrame (view_of a) (view_of b) → Agrees c (view_of a) → Agrees d (view_of b)
    → Answers o (state d (view_of b)) (state c (view_of a)) (stepped (state c (view_of a)))
    → Answers o (seen_state b.store.now b.regions.now a.pid d) (seen_state a.store.now a.regions.now a.pid c) (stepped (seen_state a.store.now a.regions.now a.pid c))
seen_step o a b c d f e g s =
    seen_answers o a.store.ghost_name b.store.ghost_name a.regions.ghost_name b.regions.ghost_name a.store.now b.store.now a.regions.now b.regions.now a.pid b.pid a.registers b.registers c d (tied a b f) e g s
