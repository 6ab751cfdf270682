use Rattle.std.proofs.Common.{◌∙◌}
use Rattle.o2_gate.proofs.Heaps.{front_is, front_ready}
use Rattle.o2_gate.proofs.heap.front.Goals as goal

pub range-requires : goal.range-requires
range-requires g c = front_ready (g.B.Bus.view c.args.bus.now) c.args.selector c.reach.result (g.met.B.Bus.sized c.args.bus.now) c.requires c.reach.ensures.value

pub returns-clause-value : goal.returns-clause-value
returns-clause-value g c = λ f.
    c.range.ensures.value f ∙ front_is (g.B.Bus.view c.args.bus.now) c.args.selector c.reach.result (g.met.B.Bus.sized c.args.bus.now) c.requires c.reach.ensures.value f
