use Rattle.o2_isolation.proofs.SharedRuns.{keeps, keeps_apart, no_run, opened_unshared}
use Rattle.o2_isolation.proofs.laws.a_process_apart_resizes_its_own_runs_alone.Goals as goal

pub returns-clause-runs : goal.returns-clause-runs
returns-clause-runs c s reserved script input starts w alone number k e = no_run number s w alone (opened_unshared s reserved script input starts w e number) k

pub returns-clause-keeps : goal.returns-clause-keeps
returns-clause-keeps c s reserved script input starts w alone number k e = keeps number s w alone (opened_unshared s reserved script input starts w e number) k

pub returns-clause-back : goal.returns-clause-back
returns-clause-back c = keeps_apart
