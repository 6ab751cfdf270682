use Rattle.o2_alone.proofs.OpenedAlike.{isolation}
use Rattle.o2_alone.proofs.laws.strangers_do_not_feel_one_another.Goals as goal

pub returns : goal.returns
returns c = isolation
