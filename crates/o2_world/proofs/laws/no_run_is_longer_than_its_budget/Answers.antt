use Rattle.o2_world.proofs.Budget.{has_last, last_within}
use Rattle.o2_world.proofs.laws.no_run_is_longer_than_its_budget.Goals as goal

pub returns-clause-ends : goal.returns-clause-ends
returns-clause-ends c = has_last

pub returns-clause-within : goal.returns-clause-within
returns-clause-within c = last_within
