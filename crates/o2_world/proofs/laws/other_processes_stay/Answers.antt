use Rattle.o2_world.proofs.Staying.{step_other, step_spared}
use Rattle.o2_world.proofs.laws.other_processes_stay.Goals as goal

pub returns-clause-spares : goal.returns-clause-spares
returns-clause-spares c = step_spared

pub returns-clause-stays : goal.returns-clause-stays
returns-clause-stays c = step_other
