use Rattle.o2_calls.proofs.Ends.{end_behind}
use Rattle.o2_calls.proofs.laws.an_end_sweeps_once.Goals as goal

pub returns : goal.returns
returns c = λ w cs p state. end_behind p state w cs
