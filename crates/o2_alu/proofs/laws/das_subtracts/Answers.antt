use Rattle.o2_alu.proofs.DecimalLaws.{das_after_difference}
use Rattle.o2_alu.proofs.laws.das_subtracts.Goals as goal

pub returns : goal.returns
returns c = das_after_difference c.args.a c.args.b c.args.borrow c.args.ah c.args.f c.requires.left c.requires.right
