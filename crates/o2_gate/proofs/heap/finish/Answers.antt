use Rattle.std.proofs.Common.{◌≡◌, ℕ, ◌==◌, false, [], ◌∷◌, List, sym, subst, arith}
use Rattle.o2_isa.specs.View.{View}
use Rattle.o2_world.specs.Outcomes.{Fails, Outcome, come_out, row as call_row}
use Rattle.o2_world.specs.declared.types.Slot.{Slot}
use Rattle.o2_world.specs.declared.types.Slot.TheVariants.{Heap}
use Rattle.o2_gate.specs.Befores.{boundless, before_call}
use Rattle.o2_gate.specs.Called.{Does}
use Rattle.o2_gate.specs.Given.{word_in}
use Rattle.o2_gate.specs.Heaps.{front_of, planned}
use Rattle.o2_gate.proofs.Heaps.{heap_done, heap_fails}
use Rattle.o2_gate.proofs.heap.finish.Goals as goal

pub returns-then-error-ne0-clause-does : goal.returns-then-error-ne0-clause-does
returns-then-error-ne0-clause-does g c = λ f input known i x outcome e.
    let v : View = g.B.Bus.view c.args.bus.now in
    let w : ℕ → ℕ = word_in c.args.words.now in
    let b = before_call (boundless f v) c.args.pid c.args.cpu.now input known in
    let other : (c.args.plan.now.answer.error == 0) ≡ false = grind (arith, c.if-error-ne0.true) in
    subst (λ (o : Outcome). Does f b (come_out (call_row c.args.row.now.name.now (Heap ∷ c.args.slots.now) outcome) b c.args.next w o) c.refuse.new.cpu v v i i x x
    (g.R.Sink.taken c.args.report.now) (g.R.Sink.taken c.refuse.new.report) c.refuse.result) (sym (heap_fails (Heap ∷ c.args.slots.now) b (planned c.args.plan.now (front_of f v c.args.selector)) other))
    (subst (λ (ss : List Slot). Does f b (come_out (call_row c.args.row.now.name.now ss outcome) b c.args.next w (Fails c.args.plan.now.answer.error [])) c.refuse.new.cpu v v i i x x
    (g.R.Sink.taken c.args.report.now) (g.R.Sink.taken c.refuse.new.report) c.refuse.result) c.requires.slots (c.refuse.ensures.does f v input known i x outcome e))

pub returns-clause-does : goal.returns-clause-does
returns-clause-does g c = λ f input known i x outcome e.
    let v : View = g.B.Bus.view c.args.bus.now in
    let w : ℕ → ℕ = word_in c.args.words.now in
    let b = before_call (boundless f v) c.args.pid c.args.cpu.now input known in
    let none : c.args.plan.now.answer.error ≡ 0 = omega (arith, c.if-error-ne0.false) in
    subst (λ (o : Outcome). Does f b (come_out (call_row c.args.row.now.name.now (Heap ∷ c.args.slots.now) outcome) b c.args.next w o) c.complete.new.cpu v (g.B.Bus.view c.complete.new.bus) i i x x
    (g.R.Sink.taken c.args.report.now) (g.R.Sink.taken c.complete.new.report) c.complete.result) (sym (heap_done (Heap ∷ c.args.slots.now) b (planned c.args.plan.now (front_of f v c.args.selector)) none))
    (c.complete.ensures.does f input known i x outcome e)
