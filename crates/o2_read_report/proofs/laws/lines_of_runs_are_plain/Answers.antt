use Rattle.o2_read_report.proofs.RunsPlain.{run_plain, step_plain}
use Rattle.o2_read_report.proofs.laws.lines_of_runs_are_plain.Goals as goal

pub returns-clause-step : goal.returns-clause-step
returns-clause-step c = λ s w few plain. (step_plain s w (record { few = few; lines = plain })).lines

pub returns-clause-run : goal.returns-clause-run
returns-clause-run c = run_plain
