use Rattle.std.proofs.Common.{rules}
use Rattle.o2_subseg.specs.declared.scan.Seek.TheVariants.{Offset}
use Rattle.o2_subseg.proofs.Planned.{free_bad, refused_plan, unsearched}
use Rattle.o2_subseg.proofs.plans.plan_free.Goals as goal

pub returns-in-None : goal.returns-in-None
returns-in-None c =
    refused_plan _ _ _ 87 (search rules) (search rules) (search rules)
    (free_bad c.args.bytes.now c.args.offset c.args.size (unsearched c.args.bytes.now (Offset c.args.offset) c.in-None.ensures.exact))
