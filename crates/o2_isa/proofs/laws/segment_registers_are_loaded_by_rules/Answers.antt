use Rattle.o2_isa.proofs.SpelledLoads.{stepped_ruled}
use Rattle.o2_isa.proofs.laws.segment_registers_are_loaded_by_rules.Goals as goal

pub returns : goal.returns
returns c = stepped_ruled
