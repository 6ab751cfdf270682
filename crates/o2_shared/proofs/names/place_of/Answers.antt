use Rattle.o2_shared.proofs.Ordered.{name_there, nobody_there}
use Rattle.o2_shared.proofs.names.place_of.Goals as goal

pub returns-in-Ok-clause-some : goal.returns-in-Ok-clause-some
returns-in-Ok-clause-some c = name_there c.args.names.now c.args.order.now c.requires c.args.text.now c.in-Ok.at c.in-Ok.ensures

pub returns-in-Err-clause-none : goal.returns-in-Err-clause-none
returns-in-Err-clause-none c = nobody_there c.args.names.now c.args.order.now c.requires c.args.text.now c.in-Err.field-0 c.in-Err.ensures
