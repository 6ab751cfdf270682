use Rattle.o2_alone.proofs.RenamedRulings.{moved_renamed}
use Rattle.o2_alone.proofs.RenamedSteps.{call_renamed}
use Rattle.o2_alone.proofs.laws.calls_depend_on_no_name.Goals as goal

pub returns : goal.returns
returns c = record { rows = call_renamed; lines = moved_renamed }
