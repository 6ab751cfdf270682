use Rattle.o2_ramsem.proofs.Sequences.{cleared_between, granted_owned}
use Rattle.o2_ramsem.proofs.laws.requests_are_cleared_between.Goals as goal

pub returns : goal.returns
returns c word a b calls first second = cleared_between _ b calls (granted_owned first) second
