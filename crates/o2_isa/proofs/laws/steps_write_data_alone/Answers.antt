use Rattle.o2_isa.proofs.Writes.{stepped_writes}
use Rattle.o2_isa.proofs.laws.steps_write_data_alone.Goals as goal

pub returns : goal.returns
returns c = stepped_writes
