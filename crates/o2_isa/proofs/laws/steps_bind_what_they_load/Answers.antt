use Rattle.o2_isa.proofs.SpelledLoads.{stepped_named}
use Rattle.o2_isa.proofs.laws.steps_bind_what_they_load.Goals as goal

pub returns : goal.returns
returns c = stepped_named
