use Rattle.o2_stepping.proofs.NextRooms.{starts}
use Rattle.o2_stepping.proofs.laws.steps_start_alike.Goals as goal

pub returns : goal.returns
returns c = λ p s w q next. starts p s w q next
