use Rattle.o2_shared.proofs.Dying.{tied_one}
use Rattle.o2_shared.proofs.laws.a_tied_world_shares_one.Goals as goal

pub returns : goal.returns
returns c = tied_one
