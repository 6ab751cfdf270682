use Rattle.o2_alone.proofs.Isolated.{is_isolated}
use Rattle.o2_alone.proofs.laws.who_keeps_to_itself_runs_as_alone.Goals as goal

pub returns : goal.returns
returns c = is_isolated
