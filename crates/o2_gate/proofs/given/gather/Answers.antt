use Rattle.std.proofs.Common.{inr, refl}
use Rattle.o2_gate.specs.Given.{AreRead}
use Rattle.o2_gate.proofs.Words.{read_by}
use Rattle.o2_gate.proofs.given.gather.Goals as goal

pub returns-in-Good-clause-gathers : goal.returns-in-Good-clause-gathers
returns-in-Good-clause-gathers g c =
    let read_in : AreRead (g.B.Bus.view c.args.bus.now) c.args.cpu.now c.args.slots.now c.in-Some.words = read_by (g.B.Bus.view c.args.bus.now) c.args.cpu.now c.args.slots.now c.in-Some.words c.word_count.result c.word_count.ensures c.in-Some.ensures in
    record { read_in = read_in; test = c.in-Good.ensures.tells; text = c.in-Good.ensures.text refl }

pub returns-in-Bad-clause-gathers : goal.returns-in-Bad-clause-gathers
returns-in-Bad-clause-gathers g c =
    let read_in : AreRead (g.B.Bus.view c.args.bus.now) c.args.cpu.now c.args.slots.now c.in-Some.words = read_by (g.B.Bus.view c.args.bus.now) c.args.cpu.now c.args.slots.now c.in-Some.words c.word_count.result c.word_count.ensures c.in-Some.ensures in
    inr (refl, record { words = c.in-Some.words; read_in = read_in; test = c.in-Bad.ensures.tells })

pub returns-in-Missed-clause-gathers : goal.returns-in-Missed-clause-gathers
returns-in-Missed-clause-gathers g c =
    let read_in : AreRead (g.B.Bus.view c.args.bus.now) c.args.cpu.now c.args.slots.now c.in-Some.words = read_by (g.B.Bus.view c.args.bus.now) c.args.cpu.now c.args.slots.now c.in-Some.words c.word_count.result c.word_count.ensures c.in-Some.ensures in
    record { words = c.in-Some.words; read_in = read_in; test = c.in-Missed.ensures.tells }
