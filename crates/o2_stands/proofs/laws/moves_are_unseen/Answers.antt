use Rattle.o2_stands.proofs.Moves.{moved_ready, moved_stands}
use Rattle.o2_stands.proofs.laws.moves_are_unseen.Goals as goal

pub returns-clause-stands : goal.returns-clause-stands
returns-clause-stands c = moved_stands

pub returns-clause-ready : goal.returns-clause-ready
returns-clause-ready c = moved_ready
