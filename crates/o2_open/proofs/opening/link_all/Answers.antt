use Rattle.o2_open.proofs.Telling.{told_refuses}
use Rattle.o2_open.proofs.Unstarted.{linked_given}
use Rattle.o2_open.proofs.opening.link_all.Goals as goal

pub returns-in-Err-Bad-clause-refuses : goal.returns-in-Err-Bad-clause-refuses
returns-in-Err-Bad-clause-refuses c = λ faults.
    told_refuses faults faults c.link_refusal.result _ c.link_refusal.ensures (linked_given c.args.modules.items c.args.conf.now c.in-Err-Bad.field-0 c.in-Err-Bad.fault c.in-Err-Bad.field-0-is c.in-Err-Bad.ensures.exact)
