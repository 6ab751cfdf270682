use Rattle.std.proofs.Common.{rules}
use Rattle.o2_subseg.specs.declared.scan.Seek.TheVariants.{Length}
use Rattle.o2_subseg.proofs.Planned.{alloc_bad, refused_plan, unsearched}
use Rattle.o2_subseg.proofs.plans.plan_alloc.Goals as goal

pub returns-in-None : goal.returns-in-None
returns-in-None c =
    refused_plan _ _ _ 87 (search rules) (search rules) (search rules)
    (alloc_bad c.args.bytes.now c.args.size (unsearched c.args.bytes.now (Length c.rounded-count.result) c.in-None.ensures.exact))
