use Rattle.std.proofs.Common.{ap, refl, subst, sym, ◌∙◌}
use Rattle.std.specs.Prelude.{Ok}
use Rattle.o2_isa.specs.Steps.{State as Machine, state}
use Rattle.o2_isa.specs.View.{Agrees, IsBound, KeepsFrame, View}
use Rattle.o2_isa.specs.Writes.{WritesData}
use Rattle.o2_gate.specs.Befores.{boundless}
use Rattle.o2_stepping.proofs.Gates.{done_boundless}
use Rattle.o2_slices.proofs.OverBus.{done_quietly, not_done, waits_present, waits_quietly}
use Rattle.o2_stepping.proofs.Touches.{touched_present}
use Rattle.o2_slices.proofs.steps.done_at_once.Goals as goal

pub returns-in-Done-clause-done : goal.returns-in-Done-clause-done
returns-in-Done-clause-done g c = λ yes f bytes known console report bound.
    done_quietly f (g.B.Bus.view c.args.bus.now) (g.B.Bus.view c.step_cached.new.bus) c.args.cpu.now c.step_cached.new.cpu c.args.pid bytes known console report c.requires.clear (c.in-Done.ensures.boundless f bound)

pub returns-in-Done-clause-present : goal.returns-in-Done-clause-present
returns-in-Done-clause-present g c = λ yes f bytes known bound.
    let v = g.B.Bus.view c.args.bus.now in
    let w = g.B.Bus.view c.step_cached.new.bus in
    touched_present f v c.args.cpu.now c.args.pid bytes known (Ok (state c.step_cached.new.cpu (boundless f w)))
    (done_boundless f v w c.args.cpu.now c.step_cached.new.cpu (c.in-Done.ensures.boundless f bound)) refl (c.in-Done.ensures.present f bound refl)

pub returns-in-Gate-clause-done : goal.returns-in-Gate-clause-done
returns-in-Gate-clause-done g c = λ yes f bytes known console report bound.
    let w : View = g.B.Bus.view c.step_cached.new.bus in
    let same = c.in-Gate.ensures.step.1 in
    let bound_then : IsBound w = subst (λ (s : Machine). IsBound s.view) (sym same) bound in
    waits_quietly f c.args.pid bytes known c.in-Gate.service _ (g.B.Bus.view c.args.bus.now) w c.args.cpu.now c.step_cached.new.cpu (c.in-Gate.ensures.boundless f bound) same
    (g.B.Bus.view c.call_at_once.new.bus) console report c.call_at_once.ensures.same (c.call_at_once.ensures.effect yes f bytes known _ bound_then)

pub returns-in-Gate-clause-present : goal.returns-in-Gate-clause-present
returns-in-Gate-clause-present g c = λ yes f bytes known bound.
    let w : View = g.B.Bus.view c.step_cached.new.bus in
    let same = c.in-Gate.ensures.step.1 in
    let bound_then : IsBound w = subst (λ (s : Machine). IsBound s.view) (sym same) bound in
    waits_present f c.args.pid bytes known c.in-Gate.service _ (g.B.Bus.view c.args.bus.now) w c.args.cpu.now c.step_cached.new.cpu (c.in-Gate.ensures.boundless f bound) same
    (c.in-Gate.ensures.present f bound refl) (c.call_at_once.ensures.present yes f bytes known bound_then)

pub returns-in-Gate-clause-still : goal.returns-in-Gate-clause-still
returns-in-Gate-clause-still g c = λ yes.
    let same = c.in-Gate.ensures.step.1 in
    (ap (λ (s : Machine). s.cpu) same, c.call_at_once.ensures.same ∙ ap (λ (s : Machine). s.view) same)

pub returns-in-Gate-clause-frame : goal.returns-in-Gate-clause-frame
returns-in-Gate-clause-frame g c = subst (λ (z : View). KeepsFrame (g.B.Bus.view c.args.bus.now) z) (sym c.call_at_once.ensures.same) c.step_cached.ensures.frame

pub returns-in-Gate-clause-writes : goal.returns-in-Gate-clause-writes
returns-in-Gate-clause-writes g c = subst (λ (z : View). WritesData (g.B.Bus.view c.args.bus.now) z) (sym c.call_at_once.ensures.same) c.step_cached.ensures.writes

pub returns-in-Gate-clause-agrees : goal.returns-in-Gate-clause-agrees
returns-in-Gate-clause-agrees g c = λ agrees.
    subst (λ (z : View). Agrees c.step_cached.new.cpu z) (sym c.call_at_once.ensures.same) (c.step_cached.ensures.agrees agrees)

pub returns-in_default-clause-still : goal.returns-in_default-clause-still
returns-in_default-clause-still g c = λ yes.
    let same = not_done c.step_cached.result _ _ _ c.in_default.not-Done c.step_cached.ensures.step in
    (ap (λ (s : Machine). s.cpu) same, ap (λ (s : Machine). s.view) same)
