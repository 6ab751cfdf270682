use Rattle.std.proofs.Common.{inl, inr, arith, rules}
use Rattle.o2_subseg.specs.declared.scan.Seek.TheVariants.{Length}
use Rattle.o2_subseg.proofs.Words.{AreBytes}
use Rattle.o2_subseg.proofs.Planned.{found_inside, long_enough, plan_none, plan_size, plan_some}
use Rattle.o2_subseg.proofs.plans.alloc_at.Goals as goal
use Rattle.o2_subseg.proofs.plans.alloc_at.Goals.{then-size-eq0-via-then-size-eq0, then-size-eq0-via-else-size-eq0+then-size-most}

pub take_front-requires-clause-inside : goal.take_front-requires-clause-inside
take_front-requires-clause-inside c = found_inside c.args.spot c.in-Some.block c.requires.spot c.in-Some.is

pub take_front-requires-clause-long : goal.take_front-requires-clause-long
take_front-requires-clause-long c =
    let are : AreBytes c.args.bytes.now = record { small = λ k. omega (arith, c.type_inv.bytes k) } in
    long_enough c.args.bytes.now c.args.count c.args.spot c.in-Some.block are c.requires.searched c.in-Some.is

pub returns-in-Some : goal.returns-in-Some
returns-in-Some c =
    let are : AreBytes c.args.bytes.now = record { small = λ k. omega (arith, c.type_inv.bytes k) } in
    plan_some c.take_front.result c.args.bytes.now c.args.size c.args.count c.args.spot c.in-Some.block are c.requires.rounded c.requires.searched c.requires.spot
    c.requires.inside (search rules) (omega arith) c.in-Some.is c.take_front.ensures.error c.take_front.ensures.value c.take_front.ensures.few c.take_front.ensures.words

pub returns-in-None : goal.returns-in-None
returns-in-None c =
    let are : AreBytes c.args.bytes.now = record { small = λ k. omega (arith, c.type_inv.bytes k) } in
    plan_none _ c.args.bytes.now c.args.size c.args.count c.args.spot are c.requires.rounded c.requires.searched (search rules) (omega arith) c.in-None.is
    (search rules) (search rules) (search rules)

pub returns-then-size-eq0 : goal.returns-then-size-eq0
returns-then-size-eq0 c =
    let are : AreBytes c.args.bytes.now = record { small = λ k. omega (arith, c.type_inv.bytes k) } in
    plan_size _ c.args.bytes.now c.args.size (Length c.args.count) c.args.spot are c.requires.searched
    (elim c.then-size-eq0.branch [ then-size-eq0-via-then-size-eq0 w ↦ inl (omega arith) | then-size-eq0-via-else-size-eq0+then-size-most w ↦ inr (omega arith) ]) (search rules) (search rules) (search rules)
