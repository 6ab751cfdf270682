use Rattle.o2_cli_laws.proofs.Commands.{run_alone}
use Rattle.o2_cli_laws.proofs.laws.opened_processes_do_not_feel_one_another.Goals as goal

pub returns : goal.returns
returns c = run_alone
