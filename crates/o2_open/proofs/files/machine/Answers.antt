use Rattle.o2_open.proofs.Telling.{since_err}
use Rattle.o2_open.proofs.files.machine.Goals as goal

pub returns-in-Got-clause-refuses : goal.returns-in-Got-clause-refuses
returns-in-Got-clause-refuses g c = since_err _ _ _ c.setting_of.result c.in-Got.ensures.count (c.setting_of.ensures.refuses _)
