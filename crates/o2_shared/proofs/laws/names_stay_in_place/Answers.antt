use Rattle.o2_shared.proofs.Staying.{stay_in_place}
use Rattle.o2_shared.proofs.laws.names_stay_in_place.Goals as goal

pub returns : goal.returns
returns c = stay_in_place
