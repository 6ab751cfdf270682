-- A step does the same with other numbers for names.
use Rattle.std.proofs.Common.{◌≡◌, refl, sym, ap, subst, ℕ, Bool, not, cond, ◌&&◌, List, [], ◌∷◌, ◌++◌}
use Rattle.std.specs.Prelude.{Option, Result, Ok, Err}
use Rattle.o2_isa.specs.declared.cpu.Cpu.{Cpu}
use Rattle.o2_isa.specs.declared.cpu.Outcome.TheVariants as outcome
use Rattle.o2_isa.specs.declared.cpu.Stop.{Stop}
use Rattle.o2_isa.specs.declared.cpu.Stop.TheVariants as stop
use Rattle.o2_isa.specs.View.{Hold}
use Rattle.o2_isa.specs.Steps.{State as Machine, state}
use Rattle.o2_isa.specs.Step.{stepped}
use Rattle.o2_isa.proofs.StepLaws.{stepped_frame}
use Rattle.o2_world.specs.declared.types.State.{State}
use Rattle.o2_world.specs.declared.types.State.TheVariants.{Trapped}
use Rattle.o2_world.specs.World.{Line, Traps, is_live}
use Rattle.o2_world.specs.CallParts.{Before, Effect}
use Rattle.o2_world.specs.Calls.{serviced}
use Rattle.o2_world.specs.Effect.{has_trap_flag, answered, single_stepped, effect}
use Rattle.o2_alone.specs.Renaming.{Renaming, SameBytes, IsRenamed, IsRenamedResult, IsRenamedEffect, IsAskedAlike, IsCalledAlike, called_by, call_of}
use Rattle.o2_alone.proofs.RenamedViews.{stepped_renamed}
use Rattle.o2_alone.proofs.RenamedCalls.{Twins, other, Does, either, trapped_renamed}
use Rattle.o2_alone.proofs.RenamedRows.{served_renamed}

-- the same process with the same registers
abbrev pub twins_of : (f : Renaming) (b o : Before) → IsRenamed f b o → Twins
twins_of f b o same = record { names = f; one = b; view = o.view; known = o.known; input = o.input; views = same.view; knows = same.known }

-- what holds of the twin holds of what is renamed
pub of_twin : (f : Renaming) (b o : Before) (same : IsRenamed f b o) (P : Before → Type 0) → P (other (twins_of f b o same)) → P o
of_twin f b o same P p =
    subst (λ (n : ℕ). P (record { number = n; cpu = o.cpu; view = o.view; known = o.known; input = o.input })) (sym same.number)
    (subst (λ (c : Cpu). P (record { number = b.number; cpu = c; view = o.view; known = o.known; input = o.input })) (sym same.cpu) p)

pub call_renamed : (f : Renaming) (service : ℕ) (b o : Before) (next : ℕ) → IsRenamed f b o → IsCalledAlike f service b o
    → IsRenamedEffect f b o (serviced b service next) (serviced o service next)
call_renamed f service b o next same =
    of_twin f b o same (λ (o : Before). IsCalledAlike f service b o → IsRenamedEffect f b o (serviced b service next) (serviced o service next)) (served_renamed service (twins_of f b o same) next)

-- with exception 1 behind it
abbrev trapped_behind : Before → Effect → Effect
trapped_behind b e = record e { state = Trapped 1; lines = e.lines ++ Traps b.number 1 b.cpu.cs b.cpu.ip ∷ [] }

single_renamed : (t : Twins) (e d : Effect) → Does t e d → Does t (single_stepped t.one e) (single_stepped (other t) d)
single_renamed t e d same =
    subst (λ (s : State). Does t (single_stepped t.one e) (cond (has_trap_flag t.one.cpu.flags && (is_live s && not d.waits)) (trapped_behind (other t) d) d)) (sym same.state)
    (subst (λ (x : Bool). Does t (single_stepped t.one e) (cond (has_trap_flag t.one.cpu.flags && (is_live e.state && not x)) (trapped_behind (other t) d) d)) (sym same.waits)
    (either t (has_trap_flag t.one.cpu.flags && (is_live e.state && not e.waits)) (trapped_behind t.one e) (trapped_behind (other t) d) e d
    (λ _. record {
      cpu = same.cpu;
      state = refl;
      bytes = same.bytes;
      changes = same.changes;
      input = same.input;
      piece = same.piece;
      lines = ap (λ (ls : List Line). ls ++ Traps t.one.number 1 t.one.cpu.cs t.one.cpu.ip ∷ []) same.lines;
      waits = same.waits;
    }) same))

answered_renamed : (t : Twins) (r q : Result Machine Stop) → stepped (state t.one.cpu t.one.view) ≡ r → IsRenamedResult t.names r q → IsAskedAlike t.names (called_by r) t.one (other t)
    → Does t (answered t.one r) (answered (other t) q)
answered_renamed t (Ok s) (Ok z) is same alike = record {
  cpu = same.cpu;
  state = refl;
  bytes = subst (λ (held : ℕ → Option Hold). SameBytes t.names held s.view.bytes z.view.bytes) (stepped_frame outcome.Done s (state t.one.cpu t.one.view) is).held same.view.bytes;
  changes = refl;
  input = λ e. e;
  piece = refl;
  lines = refl;
  waits = refl;
}
answered_renamed t (Ok s) (Err e) is same alike = absurd same
answered_renamed t (Err d) (Ok z) is same alike = absurd same
answered_renamed t (Err d) (Err e) is same alike = subst (λ (e : Stop). Does t (answered t.one (Err d)) (answered (other t) (Err e))) (sym same) (stops d alike)
  where
    stops : (d : Stop) → IsAskedAlike t.names (called_by (Err d)) t.one (other t) → Does t (answered t.one (Err d)) (answered (other t) (Err d))
    stops (stop.Trap vector code) alike = trapped_renamed t vector
    stops (stop.Gate service next) alike = served_renamed service t next alike
    stops (stop.Miss s) alike = trapped_renamed t 11

twin_steps : (t : Twins) → IsAskedAlike t.names (call_of t.one) t.one (other t) → Does t (effect t.one) (effect (other t))
unfolding effect
twin_steps t alike =
    single_renamed t _ _
    (answered_renamed t (stepped (state t.one.cpu t.one.view)) (stepped (state t.one.cpu t.view)) refl (stepped_renamed t.names t.one.cpu t.one.view t.view t.views) alike)

pub effect_renamed : (f : Renaming) (b o : Before) → IsRenamed f b o → IsAskedAlike f (call_of b) b o → IsRenamedEffect f b o (effect b) (effect o)
effect_renamed f b o same =
    of_twin f b o same (λ o. IsAskedAlike f (call_of b) b o → IsRenamedEffect f b o (effect b) (effect o)) (twin_steps (twins_of f b o same))
