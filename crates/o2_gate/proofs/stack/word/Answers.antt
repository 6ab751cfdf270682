use Rattle.std.proofs.Common.{ap, ◌∙◌}
use Rattle.o2_gate.specs.Befores.{given}
use Rattle.o2_gate.proofs.Words.{word_boundless}
use Rattle.o2_gate.proofs.stack.word.Goals as goal

pub returns-in-Ok : goal.returns-in-Ok
returns-in-Ok g c = λ f bound. ap given (c.in-Ok.ensures.value ∙ word_boundless f (g.B.Bus.view c.args.bus.now) c.args.cpu.now c.args.i bound)

pub returns-in-Err : goal.returns-in-Err
returns-in-Err g c = λ f bound. ap given (c.in-Err.ensures.value ∙ word_boundless f (g.B.Bus.view c.args.bus.now) c.args.cpu.now c.args.i bound)
