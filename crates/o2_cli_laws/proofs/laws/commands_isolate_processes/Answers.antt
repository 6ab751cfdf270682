use Rattle.o2_cli_laws.proofs.TopCall.{runs_as_alone}
use Rattle.o2_cli_laws.proofs.laws.commands_isolate_processes.Goals as goal

pub returns : goal.returns
returns c = runs_as_alone
