use Rattle.std.proofs.Common.{◌≡◌, ◌==◌, true, false, length, arith, ◌∙◌, ap, sym, subst}
use Rattle.o2_isa.specs.View.{View, whole}
use Rattle.o2_isa.specs.Pointers.{is_ready}
use Rattle.o2_bus.specs.Writes.{WritesHeld}
use Rattle.o2_gate.proofs.Writing.{put_writes}
use Rattle.o2_gate.proofs.Stores.{put_whole, put_nothing, ready_behind}
use Rattle.o2_gate.proofs.pointer.store.Goals as goal

pub returns-then-part-gt0-clause-bytes : goal.returns-then-part-gt0-clause-bytes
returns-then-part-gt0-clause-bytes g c = λ f n.
    let v : View = g.B.Bus.view c.args.bus.now in
    let some : (length c.args.part.now == 0) ≡ false = grind (arith, c.if-part-gt0.true) in
    ap (λ (w : View). (whole f w).bytes n) c.put.ensures ∙ put_whole f v c.args.selector c.args.offset c.args.part.now some c.requires n

pub returns-then-part-gt0-clause-ready : goal.returns-then-part-gt0-clause-ready
returns-then-part-gt0-clause-ready g c = λ ok s o n.
    let v : View = g.B.Bus.view c.args.bus.now in
    let some : (length c.args.part.now == 0) ≡ false = grind (arith, c.if-part-gt0.true) in
    ap (λ (w : View). is_ready ok w s o n) c.put.ensures ∙ ready_behind v c.args.selector c.args.offset c.args.part.now some c.requires ok s o n

pub returns-else-part-gt0-clause-bytes : goal.returns-else-part-gt0-clause-bytes
returns-else-part-gt0-clause-bytes g c = λ f n.
    let v : View = g.B.Bus.view c.args.bus.now in
    let none : (length c.args.part.now == 0) ≡ true = grind (arith, c.if-part-gt0.false) in
    put_nothing v.held (whole f v).bytes c.args.selector c.args.offset c.args.part.now n none

pub returns-then-part-gt0-clause-writes : goal.returns-then-part-gt0-clause-writes
returns-then-part-gt0-clause-writes g c =
    let v : View = g.B.Bus.view c.args.bus.now in
    let some : (length c.args.part.now == 0) ≡ false = grind (arith, c.if-part-gt0.true) in
    subst (λ (w : View). WritesHeld v w) (sym c.put.ensures) (put_writes v c.args.selector c.args.offset c.args.part.now some c.requires)
