use Rattle.o2_world.proofs.BareChanges.{same_all, worked_bare}
use Rattle.o2_world.proofs.laws.changes_go_by_no_bytes.Goals as goal

pub returns-clause-alike : goal.returns-clause-alike
returns-clause-alike c = same_all

pub returns-clause-worked : goal.returns-clause-worked
returns-clause-worked c = worked_bare
