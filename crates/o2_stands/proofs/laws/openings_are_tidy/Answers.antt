use Rattle.o2_stands.proofs.Openings.{opening_tidy}
use Rattle.o2_stands.proofs.laws.openings_are_tidy.Goals as goal

pub returns : goal.returns
returns c = opening_tidy
