use Rattle.o2_world.specs.Calls.{row_of}
use Rattle.o2_world.proofs.Quiet.{served_errors}
use Rattle.o2_world.proofs.laws.an_error_changes_nothing.Goals as goal

pub returns : goal.returns
returns c = λ service b next. served_errors (row_of service) b next
