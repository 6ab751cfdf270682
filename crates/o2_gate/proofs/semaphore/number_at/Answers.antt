use Rattle.std.proofs.Common.{◌+◌}
use Rattle.o2_gate.specs.Given.{word_in}
use Rattle.o2_gate.proofs.Semaphores.{ready_read}
use Rattle.o2_gate.proofs.semaphore.number_at.Goals as goal

pub range-requires : goal.range-requires
range-requires g c =
    ready_read (g.B.Bus.view c.args.bus.now) (word_in c.args.words.now (c.args.place + 1)) (word_in c.args.words.now c.args.place) 4 c.requires.ready
