use Rattle.o2_world.specs.Calls.{row_of}
use Rattle.o2_world.proofs.GoodRegisters.{served_ruled}
use Rattle.o2_world.proofs.RowsTold.{served_told}
use Rattle.o2_world.proofs.Sizes.{serviced_sizes}
use Rattle.o2_world.proofs.laws.each_call_keeps_sizes_and_tells_its_changes.Goals as goal

pub returns-clause-registers : goal.returns-clause-registers
returns-clause-registers c = λ service b next. served_ruled (row_of service) b next

pub returns-clause-sizes : goal.returns-clause-sizes
returns-clause-sizes c = serviced_sizes

pub returns-clause-lines : goal.returns-clause-lines
returns-clause-lines c = λ service b next. (served_told (row_of service) b next).tells
