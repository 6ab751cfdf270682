use Rattle.o2_machine.proofs.Reaching.{hold_by_lines, reaches_by_lines}
use Rattle.o2_machine.proofs.laws.what_is_held_is_the_reach_of_the_report.Goals as goal

pub returns-clause-machine : goal.returns-clause-machine
returns-clause-machine c = hold_by_lines

pub returns-clause-run : goal.returns-clause-run
returns-clause-run c = reaches_by_lines
