use Rattle.o2_load.proofs.Names.{same_holding}
use Rattle.o2_load.proofs.module_segments.grip.Goals as goal

pub returns-clause-grip : goal.returns-clause-grip
returns-clause-grip c = λ images bytes is. same_holding _ _ c.args.place c.args.n _ _ _ _ bytes is c.rights_of.ensures.value (c.is_common.ensures images c.args.place c.args.n)
