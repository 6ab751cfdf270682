use Rattle.o2_world.proofs.Openings.{opening_told}
use Rattle.o2_world.proofs.laws.opening_worlds_are_told.Goals as goal

pub returns : goal.returns
returns c = opening_told
