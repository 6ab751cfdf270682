use Rattle.o2_stepping.proofs.ReplyLines.{all_put, some_put}
use Rattle.o2_stepping.proofs.replying.put_lines.Goals as goal

pub returns-in-Done-clause-report : goal.returns-in-Done-clause-report
returns-in-Done-clause-report g c = c.in-Done.ensures.report

pub returns-in-Done-clause-puts : goal.returns-in-Done-clause-puts
returns-in-Done-clause-puts g c = λ z. all_put z _ _ _ c.in-Done.ensures.puts

pub returns-in-Failed-clause-report : goal.returns-in-Failed-clause-report
returns-in-Failed-clause-report g c = c.in-Failed.ensures.report

pub returns-in-Failed-clause-puts : goal.returns-in-Failed-clause-puts
returns-in-Failed-clause-puts g c = λ z. some_put z _ _ _ c.in-Failed.ensures.puts

pub returns-in-Done-clause-line : goal.returns-in-Done-clause-line
returns-in-Done-clause-line g c = λ e. absurd (cc)

pub returns-in-Failed-clause-line : goal.returns-in-Failed-clause-line
returns-in-Failed-clause-line g c = λ e. c.in-Failed.ensures.line
