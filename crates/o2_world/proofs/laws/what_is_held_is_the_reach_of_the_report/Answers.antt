use Rattle.o2_world.proofs.RunReach.{told_after_step, reach_is}
use Rattle.o2_world.proofs.laws.what_is_held_is_the_reach_of_the_report.Goals as goal

pub returns-clause-step : goal.returns-clause-step
returns-clause-step c = told_after_step

pub returns-clause-reach : goal.returns-clause-reach
returns-clause-reach c = reach_is
