use Rattle.o2_regions.proofs.AfterCalls.{dropped-processes, dropped-reserved, held_at-dropped, table_of-dropped}
use Rattle.o2_regions.proofs.laws.drops_are_exact.Goals as goal

pub returns-clause-held : goal.returns-clause-held
returns-clause-held c = held_at-dropped

pub returns-clause-tables : goal.returns-clause-tables
returns-clause-tables c = table_of-dropped

pub returns-clause-reserved : goal.returns-clause-reserved
returns-clause-reserved c = dropped-reserved

pub returns-clause-processes : goal.returns-clause-processes
returns-clause-processes c = dropped-processes
