use Rattle.std.proofs.Common.{refl}
use Rattle.o2_dumping.proofs.Putting.{first_front, then_rest}
use Rattle.o2_dumping.proofs.blocks.put_numbered.Goals as goal

pub returns-in-Failed-clause-text : goal.returns-in-Failed-clause-text
returns-in-Failed-clause-text g c = first_front _ _ _ _ c.args.block.now refl (rw c.to_le_bytes.ensures at c.in-Failed.ensures.takes)

pub returns-in-Done-clause-text : goal.returns-in-Done-clause-text
returns-in-Done-clause-text g c = then_rest _ _ _ _ _ _ _ refl (rw c.to_le_bytes.ensures at c.in-Done.ensures.takes) c.put-in-Done.ensures.takes
