use Rattle.std.proofs.Common.{◌≡◌, true, false, arith, sym, ◌∙◌, ap, subst}
use Rattle.o2_isa.specs.View.{View}
use Rattle.o2_isa.specs.Pointers.{is_passed}
use Rattle.o2_gate.specs.Pointed.{allows}
use Rattle.o2_gate.proofs.Tests.{empty_test, null_test, unloaded_test, within_test, beyond_test, missed_test}
use Rattle.o2_gate.proofs.pointer.test.Goals as goal

pub returns-then-count-eq0-clause-tells : goal.returns-then-count-eq0-clause-tells
returns-then-count-eq0-clause-tells g c = empty_test (g.B.Bus.view c.args.bus.now) c.args.writes c.args.selector c.args.offset c.args.count (grind (arith, c.if-count-eq0.true))

pub returns-then-selector-lt4-clause-tells : goal.returns-then-selector-lt4-clause-tells
returns-then-selector-lt4-clause-tells g c =
    null_test (g.B.Bus.view c.args.bus.now) c.args.writes c.args.selector c.args.offset c.args.count (grind (arith, c.if-count-eq0.false)) (grind (arith, c.if-selector-lt4.true))

pub returns-then-allows-clause-tells : goal.returns-then-allows-clause-tells
returns-then-allows-clause-tells g c =
    let v : View = g.B.Bus.view c.args.bus.now in
    let allowed = subst (λ (w : View). allows c.args.writes w c.args.selector c.args.offset c.args.count ≡ true) c.probe.ensures.same (sym c.allows.ensures ∙ c.if-allows.true) in
    within_test v c.args.writes c.args.selector c.args.offset c.args.count (grind (arith, c.if-count-eq0.false)) (grind (arith, c.if-selector-lt4.false))
    c.in-Done.ensures.value (g.met.B.Bus.sized c.args.bus.now) allowed

pub returns-else-allows-clause-tells : goal.returns-else-allows-clause-tells
returns-else-allows-clause-tells g c =
    let v : View = g.B.Bus.view c.args.bus.now in
    let allowed = subst (λ (w : View). allows c.args.writes w c.args.selector c.args.offset c.args.count ≡ false) c.probe.ensures.same (sym c.allows.ensures ∙ c.if-allows.false) in
    beyond_test v c.args.writes c.args.selector c.args.offset c.args.count (grind (arith, c.if-count-eq0.false)) (grind (arith, c.if-selector-lt4.false))
    c.in-Done.ensures.value (g.met.B.Bus.sized c.args.bus.now) allowed

pub returns-in-Miss-clause-tells : goal.returns-in-Miss-clause-tells
returns-in-Miss-clause-tells g c =
    missed_test (g.B.Bus.view c.args.bus.now) c.args.writes c.args.selector c.args.offset c.args.count (grind (arith, c.if-count-eq0.false)) (grind (arith, c.if-selector-lt4.false))
    c.in-Miss.sel c.in-Miss.ensures.value

pub returns-in-Trap-clause-tells : goal.returns-in-Trap-clause-tells
returns-in-Trap-clause-tells g c =
    unloaded_test (g.B.Bus.view c.args.bus.now) c.args.writes c.args.selector c.args.offset c.args.count (grind (arith, c.if-count-eq0.false)) (sym (ap is_passed c.in-Trap.ensures.value))

pub returns-in-Gate-clause-tells : goal.returns-in-Gate-clause-tells
returns-in-Gate-clause-tells g c =
    unloaded_test (g.B.Bus.view c.args.bus.now) c.args.writes c.args.selector c.args.offset c.args.count (grind (arith, c.if-count-eq0.false)) (sym (ap is_passed c.in-Gate.ensures.value))
