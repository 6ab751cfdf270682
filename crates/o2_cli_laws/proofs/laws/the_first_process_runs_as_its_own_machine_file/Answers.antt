use Rattle.o2_cli_laws.proofs.FirstAlone.{first_alone}
use Rattle.o2_cli_laws.proofs.laws.the_first_process_runs_as_its_own_machine_file.Goals as goal

pub returns : goal.returns
returns c = first_alone
