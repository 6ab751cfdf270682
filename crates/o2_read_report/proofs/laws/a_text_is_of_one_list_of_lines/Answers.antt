use Rattle.o2_read_report.proofs.Digits.{number_shown}
use Rattle.o2_read_report.proofs.Lists.{one_report, one_text}
use Rattle.o2_read_report.proofs.laws.a_text_is_of_one_list_of_lines.Goals as goal

pub returns-clause-lines : goal.returns-clause-lines
returns-clause-lines c = one_text

pub returns-clause-reports : goal.returns-clause-reports
returns-clause-reports c = one_report

pub returns-clause-numbers : goal.returns-clause-numbers
returns-clause-numbers c = number_shown
