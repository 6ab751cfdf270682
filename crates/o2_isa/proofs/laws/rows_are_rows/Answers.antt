use Rattle.o2_isa.proofs.Mnemonics.{steps_are_rows}
use Rattle.o2_isa.proofs.laws.rows_are_rows.Goals as goal

pub returns : goal.returns
returns c = steps_are_rows
