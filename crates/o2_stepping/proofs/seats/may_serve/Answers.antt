use Rattle.std.proofs.Common.{sym, ◌∙◌}
use Rattle.o2_stepping.proofs.Here.{seats_here}
use Rattle.o2_stepping.proofs.SeatMarks.{not_tested, seats_tested, whole_here, whole_seated}
use Rattle.o2_stepping.proofs.seats.may_serve.Goals as goal

pub returns-then-here-clause-whole : goal.returns-then-here-clause-whole
returns-then-here-clause-whole c = λ yes.
    let s = c.args.store.now in
    let m = c.args.regions.now in
    let r = c.requires in
    whole_here s m c.args.pid c.args.cpu.now c.law.ensures.shelf r.aged r.held (seats_here s m c.args.pid r.named r.settled c.args.cpu.now (r.here c.if-here.true))

pub returns-clause-whole : goal.returns-clause-whole
returns-clause-whole c = λ yes.
    let s = c.args.store.now in
    let m = c.args.regions.now in
    whole_seated s m c.args.pid c.args.cpu.now (seats_tested s m c.args.pid c.requires.held c.args.cpu.now (sym c.are_whole.ensures ∙ yes))

pub returns-clause-gone : goal.returns-clause-gone
returns-clause-gone c = λ no. not_tested c.args.store.now c.args.regions.now c.args.pid c.requires.held c.args.cpu.now (sym c.are_whole.ensures ∙ no)
