use Rattle.o2_load.proofs.Openings.{linked_opening_reserves}
use Rattle.o2_load.proofs.laws.libraries_are_reserved_for_the_run.Goals as goal

pub returns : goal.returns
returns c = linked_opening_reserves
