use Rattle.o2_segbus.proofs.Called.{bound, leaves}
use Rattle.o2_segbus.proofs.laws.calls_keep.Goals as goal

pub returns-clause-leaves : goal.returns-clause-leaves
returns-clause-leaves c = leaves

pub returns-clause-bound : goal.returns-clause-bound
returns-clause-bound c = bound
