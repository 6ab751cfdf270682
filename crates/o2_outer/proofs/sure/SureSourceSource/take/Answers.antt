use Rattle.std.proofs.Common.{arith}
use Rattle.std.proofs.lemmas.Grind.{common_steps}
use Rattle.o2_outer.proofs.Inputs.{adds_front}
use Rattle.o2_outer.proofs.sure.SureSourceSource.take.Goals as goal

pub returns-clause-adds : goal.returns-clause-adds
returns-clause-adds c =
    let s = c.args.self.now in
    adds_front s.at c.min-count.result s.bytes _ s.within (grind (arith, common_steps)) (grind (arith, common_steps))
