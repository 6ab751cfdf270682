use Rattle.o2_alu.proofs.DecimalLaws.{daa_after_sum}
use Rattle.o2_alu.proofs.laws.daa_adds.Goals as goal

pub returns : goal.returns
returns c = daa_after_sum c.args.a c.args.b c.args.carry c.args.ah c.args.f c.requires.left c.requires.right
