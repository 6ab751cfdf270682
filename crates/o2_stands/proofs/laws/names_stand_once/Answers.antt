use Rattle.o2_stands.proofs.Once.{once_all, once_change}
use Rattle.o2_stands.proofs.laws.names_stand_once.Goals as goal

pub returns-clause-change : goal.returns-clause-change
returns-clause-change c = once_change

pub returns-clause-all : goal.returns-clause-all
returns-clause-all c = once_all
