use Rattle.o2_alone.proofs.RenamedSteps.{effect_renamed}
use Rattle.o2_alone.proofs.laws.steps_depend_on_no_name.Goals as goal

pub returns : goal.returns
returns c = effect_renamed
