use Rattle.std.proofs.Common.{◌≡◌, ◌==◌, false, length, arith}
use Rattle.std.proofs.lemmas.Grind.{common_steps}
use Rattle.o2_outer.proofs.Inputs.{gives_seen, goes_taken}
use Rattle.o2_gate.proofs.Takes.{asked_by, fills_by}
use Rattle.o2_gate.proofs.read.take_front.Goals as goal

pub returns-clause-fills : goal.returns-clause-fills
returns-clause-fills g c = λ text m.
    let len : length c.take.new.into ≡ c.args.count = grind (arith, common_steps, c.take.auto.into, c.requires.room) in
    fills_by c.args.count _ _ c.take.new.into _ c.take.result len
    (gives_seen text _ _ _ _ c.take.new.into _ c.take.result c.take.auto.into c.take.ensures.bounded c.take.ensures.adds m c.take.ensures.takes)

pub returns-clause-asked : goal.returns-clause-asked
returns-clause-asked g c =
    let some : (c.args.count == 0) ≡ false = grind (arith, c.requires.some) in
    asked_by c.args.count c.take.result some

pub returns-clause-goes_on : goal.returns-clause-goes_on
returns-clause-goes_on g c = goes_taken _ _ c.take.new.into c.take.result c.take.ensures.adds
