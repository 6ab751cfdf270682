use Rattle.o2_read_report.proofs.Lists.{one_report, one_text}
use Rattle.o2_read_report.proofs.Reaching.{held_by_shown, reach_by_shown}
use Rattle.o2_read_report.proofs.laws.reach_is_read_off_the_report.Goals as goal

pub returns-clause-lines : goal.returns-clause-lines
returns-clause-lines c = λ ls ms plain plainer e. reach_by_shown ls ms (one_text ls ms plain plainer e)

pub returns-clause-reports : goal.returns-clause-reports
returns-clause-reports c = λ u v plain plainer e. reach_by_shown u.lines v.lines (one_report u v plain plainer e)

pub returns-clause-held : goal.returns-clause-held
returns-clause-held c = λ u v plain plainer told tells e. held_by_shown u v told tells (one_report u v plain plainer e)
