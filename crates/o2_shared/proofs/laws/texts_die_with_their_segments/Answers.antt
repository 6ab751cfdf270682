use Rattle.o2_shared.proofs.Dying.{texts_die}
use Rattle.o2_shared.proofs.laws.texts_die_with_their_segments.Goals as goal

pub returns : goal.returns
returns c = texts_die
