use Rattle.o2_ne.proofs.TableLaws.{no_index, no_names}
use Rattle.o2_ne.proofs.table.Table.empty.Goals as goal

pub returns-clause-none : goal.returns-clause-none
returns-clause-none c = λ file. no_names file 0 c.new.result.items c.new.ensures.items

pub returns-clause-index : goal.returns-clause-index
returns-clause-index c = λ file. no_index file 0 c.new.result.items c.new.ensures.items
