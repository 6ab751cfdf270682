use Rattle.o2_open.proofs.Telling.{since_err}
use Rattle.o2_open.proofs.opening.open_exe.Goals as goal

pub returns-clause-refuses : goal.returns-clause-refuses
returns-clause-refuses g c = since_err _ _ _ c.linked.result c.in_ok-program.ensures.count (c.linked.ensures.refuses _)
