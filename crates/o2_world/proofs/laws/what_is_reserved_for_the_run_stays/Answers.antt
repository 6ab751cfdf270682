use Rattle.o2_world.proofs.Staying.{step_stays}
use Rattle.o2_world.proofs.laws.what_is_reserved_for_the_run_stays.Goals as goal

pub returns : goal.returns
returns c = step_stays
