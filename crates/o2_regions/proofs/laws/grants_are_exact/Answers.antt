use Rattle.o2_regions.proofs.AfterCalls.{granted-processes, granted-reserved, held_at-granted, table_of-granted}
use Rattle.o2_regions.proofs.laws.grants_are_exact.Goals as goal

pub returns-clause-held : goal.returns-clause-held
returns-clause-held c = held_at-granted

pub returns-clause-tables : goal.returns-clause-tables
returns-clause-tables c = table_of-granted

pub returns-clause-reserved : goal.returns-clause-reserved
returns-clause-reserved c = granted-reserved

pub returns-clause-processes : goal.returns-clause-processes
returns-clause-processes c = granted-processes
