use Rattle.o2_world.specs.Calls.{serviced}
use Rattle.o2_world.proofs.Sparing.{changed_spared, moves_spare}
use Rattle.o2_world.proofs.StepMoves.{serviced_moves}
use Rattle.o2_world.proofs.laws.no_call_takes_from_another_process.Goals as goal

pub returns-clause-rows : goal.returns-clause-rows
returns-clause-rows c = λ service b next. moves_spare b (serviced b service next).cpu (serviced b service next).changes (serviced_moves service b next)

pub returns-clause-spares : goal.returns-clause-spares
returns-clause-spares c = changed_spared
