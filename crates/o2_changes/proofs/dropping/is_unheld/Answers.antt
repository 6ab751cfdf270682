use Rattle.std.proofs.Common.{sym}
use Rattle.o2_changes.proofs.Freeing.{a_holder, unheld}
use Rattle.o2_changes.proofs.dropping.is_unheld.Goals as goal

pub returns-in-Some-clause-some : goal.returns-in-Some-clause-some
returns-in-Some-clause-some c = λ e.
    (let q = c.in-Some.field-0 in
    (q.0, (q.1, a_holder c.args.regions.now c.args.id q (sym c.in-Some.ensures))))

pub returns-in-None-clause-none : goal.returns-in-None-clause-none
returns-in-None-clause-none c = λ e. unheld c.args.regions.now c.args.id (sym c.in-None.ensures)
