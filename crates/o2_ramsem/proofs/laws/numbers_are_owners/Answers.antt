use Rattle.o2_ramsem.proofs.Sequences.{calls_owned}
use Rattle.o2_ramsem.proofs.laws.numbers_are_owners.Goals as goal

pub returns : goal.returns
returns c calls = calls_owned 0 calls
