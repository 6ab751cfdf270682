use Rattle.std.proofs.Common.{◌∙◌, arith}
use Rattle.o2_subseg.proofs.Words.{AreBytes}
use Rattle.o2_subseg.proofs.Walks.{scan_walk, scan_none, scan_facts}
use Rattle.o2_subseg.proofs.scan.scan.Goals as goal

pub returns-in-Some : goal.returns-in-Some
returns-in-Some c =
    let bytes = c.args.bytes.now in
    let are : AreBytes bytes = record { small = λ k. omega (arith, c.type_inv.bytes k) } in
    let exact = c.walk.ensures ∙ scan_walk bytes c.args.seek c.in-Some.size c.in-Some.ensures.is in
    let facts = scan_facts bytes c.args.seek c.walk.result are exact in
    record { exact = exact; whole = facts.0; within = facts.1 }

pub returns-in-None : goal.returns-in-None
returns-in-None c = record { exact = scan_none c.args.bytes.now c.args.seek c.in-None.ensures.is; whole = tt; within = tt }
