use Rattle.std.proofs.Common.{arith, rules}
use Rattle.o2_subseg.proofs.Words.{AreBytes}
use Rattle.o2_subseg.proofs.Planned.{plan_freed, plan_met, rounded_long}
use Rattle.o2_subseg.proofs.plans.free_at.Goals as goal

pub free_range-requires-clause-long : goal.free_range-requires-clause-long
free_range-requires-clause-long c = omega (arith, rounded_long c.args.size c.requires.range.some, c.requires.rounded)

pub free_range-requires-clause-clear : goal.free_range-requires-clause-clear
free_range-requires-clause-clear c = cc

pub returns-then-is_met : goal.returns-then-is_met
returns-then-is_met c =
    let are : AreBytes c.args.bytes.now = record { small = λ k. omega (arith, c.type_inv.bytes k) } in
    plan_met _ c.args.bytes.now c.args.size c.args.range c.args.spot are c.requires.range c.requires.rounded c.requires.searched (cc)
    (search rules) (search rules) (search rules)

pub returns : goal.returns
returns c =
    let are : AreBytes c.args.bytes.now = record { small = λ k. omega (arith, c.type_inv.bytes k) } in
    plan_freed c.free_range.result c.args.bytes.now c.args.size c.args.range c.args.spot are c.requires.range c.requires.rounded c.requires.searched c.requires.spot
    c.requires.inside (cc) c.free_range.ensures.error c.free_range.ensures.value c.free_range.ensures.few c.free_range.ensures.words
