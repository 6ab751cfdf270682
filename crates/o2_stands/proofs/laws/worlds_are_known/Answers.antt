use Rattle.o2_stands.proofs.Knowing.{known_is}
use Rattle.o2_stands.proofs.laws.worlds_are_known.Goals as goal

pub returns : goal.returns
returns c = known_is
