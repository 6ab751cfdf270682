use Rattle.std.proofs.Common.{◌≤◌, arith, length}
use Rattle.o2_dynlink.proofs.Marking.{both_goes_on, both_here, both_none}
use Rattle.o2_dynlink.proofs.reached.both_any.Goals as goal

pub returns-then-both_at : goal.returns-then-both_at
returns-then-both_at c = both_here c.args.a.now c.args.b.now c.loop-i.i _ _ (omega arith) c.both_at.ensures c.if-both_at.true c.loop-i.invariant

pub loop-i-preserved : goal.loop-i-preserved
loop-i-preserved c = both_goes_on c.args.a.now c.args.b.now c.loop-i.i _ _ (omega arith) c.both_at.ensures c.if-both_at.false c.loop-i.invariant

pub returns : goal.returns
returns c =
    let le : length c.args.a.now ≤ c.loop-i.i = omega arith in
    both_none c.args.a.now c.args.b.now c.loop-i.i _ le c.loop-i.invariant
