use Rattle.o2_cli_laws.proofs.Texts.{console_told, lines_told, stranger_tells, stranger_writes}
use Rattle.o2_cli_laws.proofs.laws.events_tell_what_a_run_writes.Goals as goal

pub returns-clause-console : goal.returns-clause-console
returns-clause-console c = console_told

pub returns-clause-lines : goal.returns-clause-lines
returns-clause-lines c = lines_told

pub returns-clause-wrote : goal.returns-clause-wrote
returns-clause-wrote c = stranger_writes

pub returns-clause-told : goal.returns-clause-told
returns-clause-told c = stranger_tells
