use Rattle.std.proofs.Common.{arith, sym, ◌∙◌, ap}
use Rattle.o2_isa.specs.Pointers.{is_passed}
use Rattle.o2_gate.proofs.Heaps.{heap_missed, heap_there, null_no_heap, unloaded_no_heap, unwritable_no_heap}
use Rattle.o2_gate.proofs.heap.test_heap.Goals as goal

pub returns-then-selector-lt4-clause-tells : goal.returns-then-selector-lt4-clause-tells
returns-then-selector-lt4-clause-tells g c = null_no_heap (g.B.Bus.view c.args.bus.now) c.args.selector (grind (arith, c.if-selector-lt4.true))

pub returns-then-not-names_writable-clause-tells : goal.returns-then-not-names_writable-clause-tells
returns-then-not-names_writable-clause-tells g c =
    unwritable_no_heap (g.B.Bus.view c.args.bus.now) c.args.selector (sym c.names_writable.ensures ∙ c.if-not-names_writable.true)

pub returns-in-Done-clause-tells : goal.returns-in-Done-clause-tells
returns-in-Done-clause-tells g c =
    heap_there (g.B.Bus.view c.args.bus.now) c.args.selector (grind (arith, c.if-selector-lt4.false)) (sym c.names_writable.ensures ∙ c.if-not-names_writable.false)
    c.in-Done.ensures.value (g.met.B.Bus.sized c.args.bus.now)

pub returns-in-Miss-clause-tells : goal.returns-in-Miss-clause-tells
returns-in-Miss-clause-tells g c =
    heap_missed (g.B.Bus.view c.args.bus.now) c.args.selector c.in-Miss.sel (grind (arith, c.if-selector-lt4.false)) (sym c.names_writable.ensures ∙ c.if-not-names_writable.false)
    c.in-Miss.ensures.value

pub returns-in-Trap-clause-tells : goal.returns-in-Trap-clause-tells
returns-in-Trap-clause-tells g c = unloaded_no_heap (g.B.Bus.view c.args.bus.now) c.args.selector (sym (ap is_passed c.in-Trap.ensures.value))

pub returns-in-Gate-clause-tells : goal.returns-in-Gate-clause-tells
returns-in-Gate-clause-tells g c = unloaded_no_heap (g.B.Bus.view c.args.bus.now) c.args.selector (sym (ap is_passed c.in-Gate.ensures.value))
