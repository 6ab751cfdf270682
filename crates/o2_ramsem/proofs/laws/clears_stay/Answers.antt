use Rattle.o2_ramsem.proofs.Sequences.{stays_clear}
use Rattle.o2_ramsem.proofs.laws.clears_stay.Goals as goal

pub returns : goal.returns
returns c word pid calls quiet = stays_clear calls quiet
