use Rattle.o2_stands.proofs.Tidying.{tidy_behind}
use Rattle.o2_stands.proofs.laws.changes_keep_a_world_tidy.Goals as goal

pub returns : goal.returns
returns c = λ w cs tied fit tidies tidy swept runs flags full. tidy_behind w cs tied fit tidies tidy swept runs flags full
