use Rattle.std.proofs.Common.{sym}
use Rattle.o2_isa.proofs.Loads.{loadable_from_probe}
use Rattle.o2_bus.proofs.access.check_load.Goals as goal

pub returns-in-Done-clause-loadable : goal.returns-in-Done-clause-loadable
returns-in-Done-clause-loadable g c = loadable_from_probe _ c.args.purpose _ (sym c.in-Done.ensures.value)
