use Rattle.o2_isolation.proofs.Linked.{linked_isolation, linked_strangers}
use Rattle.o2_isolation.proofs.laws.linked_processes_do_not_feel_one_another.Goals as goal

pub returns-clause-keeping : goal.returns-clause-keeping
returns-clause-keeping c = linked_isolation

pub returns-clause-strangers : goal.returns-clause-strangers
returns-clause-strangers c = linked_strangers
