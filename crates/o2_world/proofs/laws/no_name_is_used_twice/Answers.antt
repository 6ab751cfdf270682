use Rattle.o2_world.proofs.UsesNames.{changed_new, step_new}
use Rattle.o2_world.proofs.laws.no_name_is_used_twice.Goals as goal

pub returns : goal.returns
returns c = record { step = step_new; changes = changed_new }
