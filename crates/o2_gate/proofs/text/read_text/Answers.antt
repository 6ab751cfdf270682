use Rattle.o2_gate.proofs.TextTests.{none_read, range_ready, some_read, text_bad, text_missed}
use Rattle.o2_gate.proofs.text.read_text.Goals as goal

pub range-requires : goal.range-requires
range-requires g c =
    range_ready (g.B.Bus.view c.args.bus.now) (g.B.Bus.view c.test.new.bus) c.args.selector c.args.offset c.count_from-count.result c.test.ensures.same (g.met.B.Bus.sized c.args.bus.now) c.in-Good.ensures.tells c.count_from-count.ensures.count

pub returns-in-Some-clause-reads : goal.returns-in-Some-clause-reads
returns-in-Some-clause-reads g c =
    some_read (g.B.Bus.view c.args.bus.now) (g.B.Bus.view c.test.new.bus) c.args.selector c.args.offset c.count_from-count.result c.test.ensures.same (g.met.B.Bus.sized c.args.bus.now) c.in-Good.ensures.tells c.count_from-count.ensures.count
    c.range.result.now c.range.ensures.value c.range.ensures.len c.in-Some.bytes c.in-Some.ensures.some

pub returns-in-None-clause-reads : goal.returns-in-None-clause-reads
returns-in-None-clause-reads g c =
    none_read (g.B.Bus.view c.args.bus.now) (g.B.Bus.view c.test.new.bus) c.args.selector c.args.offset c.count_from-count.result c.test.ensures.same (g.met.B.Bus.sized c.args.bus.now) c.in-Good.ensures.tells c.count_from-count.ensures.count
    c.range.result.now c.range.ensures.value c.range.ensures.len c.in-None.ensures.none

pub returns-in-Bad-clause-reads : goal.returns-in-Bad-clause-reads
returns-in-Bad-clause-reads g c = text_bad (g.B.Bus.view c.args.bus.now) c.args.selector c.args.offset c.in-Bad.ensures.tells

pub returns-in-Missed-clause-reads : goal.returns-in-Missed-clause-reads
returns-in-Missed-clause-reads g c = text_missed (g.B.Bus.view c.args.bus.now) c.args.selector c.args.offset c.in-Missed.sel c.in-Missed.ensures.tells
