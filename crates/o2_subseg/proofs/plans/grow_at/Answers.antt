use Rattle.std.proofs.Common.{arith, refl, rules}
use Rattle.o2_subseg.proofs.Words.{AreBytes}
use Rattle.o2_subseg.proofs.Planned.{more_clear, plan_less, plan_more, plan_same}
use Rattle.o2_subseg.proofs.plans.grow_at.Goals as goal

pub free_range-requires-clause-clear : goal.free_range-requires-clause-clear
free_range-requires-clause-clear c =
    let are : AreBytes c.args.bytes.now = record { small = λ k. omega (arith, c.type_inv.bytes k) } in
    more_clear c.args.bytes.now c.args.spot _ are c.requires.searched (omega arith)

pub returns-then-area-spot : goal.returns-then-area-spot
returns-then-area-spot c =
    let are : AreBytes c.args.bytes.now = record { small = λ k. omega (arith, c.type_inv.bytes k) } in
    plan_less _ c.args.bytes.now c.args.area c.args.spot are c.requires.searched (omega arith) (search rules) (search rules) (search rules)

pub returns-then-area-spot-2 : goal.returns-then-area-spot-2
returns-then-area-spot-2 c =
    let are : AreBytes c.args.bytes.now = record { small = λ k. omega (arith, c.type_inv.bytes k) } in
    plan_same _ c.args.bytes.now c.args.area c.args.spot are c.requires.searched (omega arith) refl refl refl

pub returns : goal.returns
returns c =
    let are : AreBytes c.args.bytes.now = record { small = λ k. omega (arith, c.type_inv.bytes k) } in
    plan_more c.free_range.result c.args.bytes.now c.args.area c.args.spot are c.requires.searched c.requires.spot c.requires.inside c.requires.whole c.requires.within
    (omega arith) c.free_range.ensures.error c.free_range.ensures.value c.free_range.ensures.few c.free_range.ensures.words
