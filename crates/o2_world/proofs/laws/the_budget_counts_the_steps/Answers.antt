use Rattle.o2_world.proofs.Budget.{steps_counted}
use Rattle.o2_world.proofs.laws.the_budget_counts_the_steps.Goals as goal

pub returns : goal.returns
returns c = steps_counted
