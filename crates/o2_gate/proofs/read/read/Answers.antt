use Rattle.std.proofs.Common.{◌≡◌, ℕ, ◌==◌, ◌&&◌, true, not, take, drop, ap, sym, ◌∙◌, subst, refl, arith}
use Rattle.o2_outer.specs.Inputs.{left_as}
use Rattle.o2_isa.specs.View.{View}
use Rattle.o2_world.specs.Calls.{read_slots, reading}
use Rattle.o2_world.specs.Outcomes.{Outcome, come_out, row as call_row}
use Rattle.o2_gate.specs.Befores.{boundless, before_call}
use Rattle.o2_gate.specs.Called.{DoesFor}
use Rattle.o2_gate.specs.Given.{word_in}
use Rattle.o2_gate.proofs.Inputs.{any_reason}
use Rattle.o2_gate.proofs.Lines.{reading_done}
use Rattle.o2_gate.proofs.read.read.Goals as goal

pub returns-in-Done-take_bytes-clause-does : goal.returns-in-Done-take_bytes-clause-does
returns-in-Done-take_bytes-clause-does g c = λ text m f bytes known x e.
    let v : View = g.B.Bus.view c.args.bus.now in
    let w : ℕ → ℕ = word_in c.args.words.now in
    let b = before_call (boundless f v) c.args.pid c.args.cpu.now bytes known in
    let fill = c.in-Done-take_bytes.ensures.fills text m bytes e in
    let i = left_as text (g.I.Source.left c.args.input.now) (g.I.Source.past c.args.input.now) in
    let j = left_as text (g.I.Source.left c.take_bytes.new.input) (g.I.Source.past c.take_bytes.new.input) in
    let got : take c.in-Done-take_bytes.got c.deref.result.now ≡ take (w 2) bytes = ap (take c.in-Done-take_bytes.got) c.deref.ensures.value ∙ fill.0 in
    let zero : (w 5 == 0) ≡ true = grind arith in
    subst (λ (o : Outcome). DoesFor (((w 5 == 0) && not (w 2 == 0)) ≡ true) f b (come_out (call_row c.args.row.now.name.now read_slots reading) b c.args.next w o) c.deliver.new.cpu v (g.B.Bus.view c.deliver.new.bus) i j x x
    (g.R.Sink.taken c.args.report.now) (g.R.Sink.taken c.deliver.new.report) c.deliver.result)
    (sym (reading_done b w (take c.in-Done-take_bytes.got c.deref.result.now) (drop (w 2) bytes) zero (sym got) refl))
    (any_reason _ _ _ f b _ _ _ _ _ _ _ _ _ _ c.deliver.result c.deliver.ensures.cause (c.deliver.ensures.does f bytes (drop (w 2) bytes) known i _ x fill.1))
