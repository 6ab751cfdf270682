use Rattle.std.proofs.Common.{arith, rules}
use Rattle.o2_subseg.specs.declared.scan.Seek.TheVariants.{Offset}
use Rattle.o2_subseg.proofs.Words.{AreBytes}
use Rattle.o2_subseg.proofs.Planned.{grow_bad, grow_searched, refused_plan, unsearched}
use Rattle.o2_subseg.proofs.plans.grow.Goals as goal

pub grow_at-requires-clause-searched : goal.grow_at-requires-clause-searched
grow_at-requires-clause-searched c =
    let are : AreBytes c.args.bytes.now = record { small = λ k. omega (arith, c.type_inv.bytes k) } in
    grow_searched c.args.bytes.now c.word-size.result c.in-Some.spot are c.word-size.ensures c.in-Some.ensures.exact

pub returns-in-None : goal.returns-in-None
returns-in-None c =
    refused_plan _ _ _ 87 (search rules) (search rules) (search rules)
    (grow_bad c.args.bytes.now c.args.area (unsearched c.args.bytes.now (Offset c.word-size.result) c.in-None.ensures.exact))
