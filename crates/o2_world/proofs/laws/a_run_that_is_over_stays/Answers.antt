use Rattle.o2_world.proofs.Keeps.{over_stays}
use Rattle.o2_world.proofs.laws.a_run_that_is_over_stays.Goals as goal

pub returns : goal.returns
returns c = over_stays
