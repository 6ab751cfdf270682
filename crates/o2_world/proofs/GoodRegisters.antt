-- A step leaves good registers to a process that outlives it.
use Rattle.std.proofs.Common.{◌≡◌, ◌⊎◌, ℕ, ◌/◌, ◌%◌, Bool, true, false, not, cond, ◌==◌, ◌&&◌, List, [], Option, Some, None, ap, sym, ◌∙◌, refl, arith, subst, inl, inr, drop, take}
use Rattle.std.proofs.Math.Seq.{drop-nil}
use Rattle.std.specs.Prelude.{Result, Ok, Err, option_map, if◌then◌else◌}
use Rattle.o2_isa.specs.declared.cpu.Cpu.{Cpu}
use Rattle.o2_isa.specs.declared.cpu.Loaded.TheVariants as loaded
use Rattle.o2_isa.specs.declared.cpu.Outcome.TheVariants as outcome
use Rattle.o2_isa.specs.declared.cpu.Purpose.TheVariants.{DataReg, StackReg, Return}
use Rattle.o2_isa.specs.declared.cpu.Stop.{Stop}
use Rattle.o2_isa.specs.declared.cpu.Stop.TheVariants as stop
use Rattle.o2_isa.specs.declared.instr.Sreg.TheVariants.{Es, Cs, Ss, Ds}
use Rattle.o2_isa.specs.Reading.{decoded}
use Rattle.o2_isa.specs.View.{View, Hold, is_null, is_local, is_code, is_readable, is_writable, found, when, here, refused, probe_of, fetched, hold_bytes}
use Rattle.o2_isa.specs.Presence.{SameSelectors}
use Rattle.o2_isa.specs.SegmentLoads.{Passes, LoadsByRules}
use Rattle.o2_isa.specs.Steps.{State as Machine, state, run}
use Rattle.o2_isa.specs.Step.{stepped, steps_at}
use Rattle.o2_isa.proofs.SpelledLoads.{stepped_ruled}
use Rattle.o2_world.specs.declared.types.State.{State}
use Rattle.o2_world.specs.Map.{Map, get}
use Rattle.o2_world.specs.World.{Process, Segment, Held, is_live}
use Rattle.o2_world.specs.Views.{hold_of, holds_in, view_of}
use Rattle.o2_world.specs.CallParts.{Before, Effect, returned, trapped}
use Rattle.o2_world.specs.Slots.{words_in}
use Rattle.o2_world.specs.Outcomes.{CallRow, Does, Fails, Waits, Leaves, Outcome, come_out, gone_indexes}
use Rattle.o2_world.specs.Calls.{row_of, served_by}
use Rattle.o2_world.specs.HugeRulings.{names_one, without}
use Rattle.o2_world.specs.Effect.{has_trap_flag, answered, single_stepped, effect}
use Rattle.o2_world.specs.Sound.{has_rights, NamesHeld, HasGoodRegisters}
use Rattle.o2_world.proofs.Serving.{by_row}

-- What passes the load rules names a held segment of its kind.

when_held : (v : View) (a s : ℕ) (ok : ℕ → Bool) (o : Option Held) → when v a s ok (option_map hold_of o) ≡ loaded.Done
    → has_rights ok o ≡ true
when_held v a s ok None e = cc
when_held v a s ok (Some h) e = go (ok h.rights) e
  where
    go : (b : Bool) → cond b (here v a s (hold_of h)) (refused s) ≡ loaded.Done → b ≡ true
    go true e = refl
    go false e = cc

when_named : (names : Map Segment) (p : Process) (a s : ℕ) (ok : ℕ → Bool) → (let v = view_of names p in when v a s ok (found v s) ≡ loaded.Done) → NamesHeld p ok s
when_named names p a s ok e = go (is_local s) refl e
  where
    go : (b : Bool) → is_local s ≡ b → when (view_of names p) a s ok (cond b (holds_in p.held (s / 8)) None) ≡ loaded.Done
        → NamesHeld p ok s
    go true is e = (is, when_held (view_of names p) a s ok (get p.held (s / 8)) e)
    go false is e = cc

data_named : (names : Map Segment) (p : Process) (s : ℕ) → Passes (view_of names p) DataReg s
    → (is_null s ≡ true) ⊎ NamesHeld p is_readable s
unfolding probe_of
data_named names p s e = go (is_null s) refl e
  where
    go : (b : Bool) → is_null s ≡ b → (let v = view_of names p in cond b loaded.Done (when v 11 s is_readable (found v s)) ≡ loaded.Done) → (is_null s ≡ true) ⊎ NamesHeld p is_readable s
    go true is e = inl is
    go false is e = inr (when_named names p 11 s is_readable e)

ring_is : (n : ℕ) → (n == 3) ≡ true → n ≡ 3
ring_is n e = grind arith

-- not null, of privilege level 3, and of this kind
ringed : (names : Map Segment) (p : Process) (a s : ℕ) (ok : ℕ → Bool)
    → (let v = view_of names p in cond (is_null s) (loaded.Trap 13 0) (cond (s % 4 == 3) (when v a s ok (found v s)) (refused s)) ≡ loaded.Done) → NamesHeld p ok s × (s % 4 ≡ 3)
ringed names p a s ok e = go (is_null s) (s % 4 == 3) refl e
  where
    go : (n b : Bool) → (s % 4 == 3) ≡ b → (let v = view_of names p in cond n (loaded.Trap 13 0) (cond b (when v a s ok (found v s)) (refused s)) ≡ loaded.Done) → NamesHeld p ok s × (s % 4 ≡ 3)
    go true b is e = cc
    go false true is e = (when_named names p a s ok e, ring_is (s % 4) is)
    go false false is e = cc

code_named : (names : Map Segment) (p : Process) (s : ℕ) → Passes (view_of names p) Return s → NamesHeld p is_code s × (s % 4 ≡ 3)
unfolding probe_of
code_named names p s e = ringed names p 11 s is_code e

stack_named : (names : Map Segment) (p : Process) (s : ℕ) → Passes (view_of names p) StackReg s → NamesHeld p is_writable s × (s % 4 ≡ 3)
unfolding probe_of
stack_named names p s e = ringed names p 12 s is_writable e

-- Registers that were good, each as before or loaded by its rules, are good.

from : {P Q : ℕ → Type 0} (old new : ℕ) → P old → (new ≡ old) ⊎ Q new → ((s : ℕ) → Q s → P s) → P new
from {P} old new h (inl e) f = subst P (sym e) h
from old new h (inr q) f = f new q

pub good_after : (names : Map Segment) (p : Process) (c : Cpu) (s : State) → HasGoodRegisters p → LoadsByRules (view_of names p) p.cpu c → HasGoodRegisters (record p { cpu = c; state = s })
good_after names p c s good ruled =
    let v : View = view_of names p in
    let code = from {P = λ x. NamesHeld p is_code x × (x % 4 ≡ 3)} {Q = Passes v Return} p.cpu.cs c.cs (good.cs, good.cs_ring) (ruled Cs) (code_named names p) in
    let stack = from {P = λ x. NamesHeld p is_writable x × (x % 4 ≡ 3)} {Q = Passes v StackReg} p.cpu.ss c.ss (good.ss, good.ss_ring) (ruled Ss) (stack_named names p) in
    record {
      cs = code.0;
      cs_ring = code.1;
      ss = stack.0;
      ss_ring = stack.1;
      ds = from {P = λ x. (is_null x ≡ true) ⊎ NamesHeld p is_readable x} {Q = Passes v DataReg} p.cpu.ds c.ds good.ds (ruled Ds) (data_named names p);
      es = from {P = λ x. (is_null x ≡ true) ⊎ NamesHeld p is_readable x} {Q = Passes v DataReg} p.cpu.es c.es good.es (ruled Es) (data_named names p);
    }

-- Other services and traps leave the segment registers as they are.

record Keeps (c : Cpu) (e : Effect) : Type 0 where
  selectors : SameSelectors e.cpu c

at_same : (b : Before) (e : Effect) → e.cpu ≡ b.cpu → Keeps b.cpu e
at_same b e same = record { selectors = subst (λ (c : Cpu). SameSelectors c b.cpu) (sym same) (record { es = refl; cs = refl; ss = refl; ds = refl }) }

returns : (b : Before) (e : Effect) (next words error : ℕ) → e.cpu ≡ returned b.cpu next words error → Keeps b.cpu e
returns b e next words error same = record { selectors = subst (λ (c : Cpu). SameSelectors c b.cpu) (sym same) (record { es = refl; cs = refl; ss = refl; ds = refl }) }

traps : (b : Before) (vector : ℕ) → Keeps b.cpu (trapped b vector)
traps b vector = at_same b (trapped b vector) refl

kept_ruled : (v : View) (c : Cpu) (e : Effect) → Keeps c e → LoadsByRules v c e.cpu
kept_ruled v c e k Es = inl k.selectors.es
kept_ruled v c e k Cs = inl k.selectors.cs
kept_ruled v c e k Ss = inl k.selectors.ss
kept_ruled v c e k Ds = inl k.selectors.ds

-- A call may leave DS and ES null.

cleared : (v : View) (t : Bool) (s : ℕ) → ((if t then 0 else s) ≡ s) ⊎ Passes v DataReg (if t then 0 else s)
unfolding probe_of
cleared v true s = inr refl
cleared v false s = inl refl

without_ruled : (v : View) (c d : Cpu) (is : List ℕ) → SameSelectors d c → LoadsByRules v c (without d is)
without_ruled v c d is same Es = subst (λ (s : ℕ). ((if names_one d.es is then 0 else d.es) ≡ s) ⊎ Passes v DataReg (if names_one d.es is then 0 else d.es)) same.es (cleared v (names_one d.es is) d.es)
without_ruled v c d is same Cs = inl same.cs
without_ruled v c d is same Ss = inl same.ss
without_ruled v c d is same Ds = subst (λ (s : ℕ). ((if names_one d.ds is then 0 else d.ds) ≡ s) ⊎ Passes v DataReg (if names_one d.ds is then 0 else d.ds)) same.ds (cleared v (names_one d.ds is) d.ds)

come_ruled : (r : CallRow) (b : Before) (next : ℕ) (a : ℕ → ℕ) (o : Outcome) → LoadsByRules b.view b.cpu (come_out r b next a o).cpu
come_ruled r b next a (Fails error values) = kept_ruled b.view b.cpu _ (returns b (come_out r b next a (Fails error values)) next (words_in r.slots) error refl)
come_ruled r b next a (Does d) =
    without_ruled b.view b.cpu (returned b.cpu next (words_in r.slots) 0) (gone_indexes b.known d.changes) (record { es = refl; cs = refl; ss = refl; ds = refl })
come_ruled r b next a Waits = kept_ruled b.view b.cpu _ (at_same b (come_out r b next a Waits) refl)
come_ruled r b next a (Leaves action code) = kept_ruled b.view b.cpu _ (at_same b (come_out r b next a (Leaves action code)) refl)

pub served_ruled : (o : Option CallRow) (b : Before) (next : ℕ) → LoadsByRules b.view b.cpu (served_by o b next).cpu
served_ruled o b next =
    by_row (λ (e : Effect). LoadsByRules b.view b.cpu e.cpu) b next (kept_ruled b.view b.cpu _ (traps b 12)) (kept_ruled b.view b.cpu _ (traps b 13))
    (λ r a good. come_ruled r b next a (r.outcome b a)) o

answered_ruled : (b : Before) (r : Result Machine Stop) → stepped (state b.cpu b.view) ≡ r → LoadsByRules b.view b.cpu (answered b r).cpu
answered_ruled b (Ok s) e = stepped_ruled outcome.Done s (state b.cpu b.view) e
answered_ruled b (Err (stop.Trap vector code)) e = kept_ruled b.view b.cpu _ (traps b vector)
answered_ruled b (Err (stop.Gate service next)) e = served_ruled (row_of service) b next
answered_ruled b (Err (stop.Miss s)) e = kept_ruled b.view b.cpu _ (traps b 11)

picked_ruled : (v : View) (c : Cpu) (t : Bool) (e f : Effect) → LoadsByRules v c e.cpu → LoadsByRules v c f.cpu
    → LoadsByRules v c (cond t e f).cpu
picked_ruled v c true e f h k = h
picked_ruled v c false e f h k = k

single_ruled : (b : Before) (e : Effect) → LoadsByRules b.view b.cpu e.cpu → LoadsByRules b.view b.cpu (single_stepped b e).cpu
single_ruled b e h = picked_ruled b.view b.cpu (has_trap_flag b.cpu.flags && (is_live e.state && not e.waits)) _ e h h

-- a step's registers are as before or loaded by their rules
pub effect_ruled : (b : Before) → LoadsByRules b.view b.cpu (effect b).cpu
unfolding effect
effect_ruled b = single_ruled b (answered b (stepped (state b.cpu b.view))) (answered_ruled b (stepped (state b.cpu b.view)) refl)

-- A process that holds nothing has no code, and its step is a trap.

no_bytes : (v : View) (c : Cpu) → v.registers.cs ≡ None → stepped (state c v) ≡ Err (stop.Trap 13 0)
unfolding stepped fetched decoded
no_bytes v c none =
    let empty : take 10 (drop c.ip (hold_bytes v v.registers.cs)) ≡ [] = ap (λ (o : Option Hold). take 10 (drop c.ip (hold_bytes v o))) none ∙ ap (take 10) (drop-nil c.ip) in
    ap (λ (bs : List ℕ). run (steps_at c (decoded bs)) v) empty
