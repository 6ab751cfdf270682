use Rattle.o2_world.proofs.Rows.{built_has_row, named_as_service}
use Rattle.o2_world.proofs.laws.each_service_that_is_built_has_a_row.Goals as goal

pub returns-clause-built : goal.returns-clause-built
returns-clause-built c = built_has_row

pub returns-clause-named : goal.returns-clause-named
returns-clause-named c = named_as_service
