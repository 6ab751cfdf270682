use Rattle.std.proofs.Common.{◌∙◌, arith}
use Rattle.o2_isa.specs.View.{whole}
use Rattle.o2_gate.proofs.Stores.{range_whole, no_range}
use Rattle.o2_gate.proofs.pointer.range.Goals as goal

pub returns-then-count-eq0-clause-value : goal.returns-then-count-eq0-clause-value
returns-then-count-eq0-clause-value g c = λ f.
    no_range (g.B.Bus.view c.args.bus.now).held (whole f (g.B.Bus.view c.args.bus.now)).bytes c.args.selector c.args.offset c.args.count (grind (arith, c.if-count-eq0.true))

pub returns-clause-value : goal.returns-clause-value
returns-clause-value g c = λ f. c.range.ensures.value ∙ range_whole f (g.B.Bus.view c.args.bus.now) c.args.selector c.args.offset c.args.count c.requires
