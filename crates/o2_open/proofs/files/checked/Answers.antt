use Rattle.o2_open.proofs.Telling.{told_refuses}
use Rattle.o2_open.proofs.Unstarted.{module_given}
use Rattle.o2_open.proofs.files.checked.Goals as goal

pub returns-in-Err-Bad-clause-refuses : goal.returns-in-Err-Bad-clause-refuses
returns-in-Err-Bad-clause-refuses c = λ faults.
    told_refuses faults faults c.bad_module.result _ c.bad_module.ensures (module_given c.args.file c.in-Err-Bad.field-0 c.in-Err-Bad.fault c.in-Err-Bad.field-0-is c.in-Err-Bad.ensures)
