use Rattle.std.proofs.Common.{arith, sym}
use Rattle.o2_conf.proofs.Decimals.{too_large}
use Rattle.o2_conf.proofs.script.number_of.Goals as goal

pub returns-in_default-clause-exact : goal.returns-in_default-clause-exact
returns-in_default-clause-exact c =
    sym (too_large c.args.most c.args.text.now c.requires (omega arith) c.in_default.ensures.value.0)
