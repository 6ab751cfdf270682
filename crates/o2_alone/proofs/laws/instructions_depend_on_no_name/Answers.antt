use Rattle.o2_alone.proofs.RenamedViews.{stepped_renamed}
use Rattle.o2_alone.proofs.laws.instructions_depend_on_no_name.Goals as goal

pub returns : goal.returns
returns c = stepped_renamed
