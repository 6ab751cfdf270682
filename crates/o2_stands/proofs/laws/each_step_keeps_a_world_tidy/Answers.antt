use Rattle.o2_stands.proofs.TidySteps.{step_tidy}
use Rattle.o2_stands.proofs.laws.each_step_keeps_a_world_tidy.Goals as goal

pub returns : goal.returns
returns c = step_tidy
