use Rattle.std.proofs.Common.{◌≤◌, arith, length}
use Rattle.o2_dynlink.proofs.Marking.{next_done, next_more}
use Rattle.o2_dynlink.proofs.reached.next_marks.Goals as goal

pub loop-i-preserved : goal.loop-i-preserved
loop-i-preserved c = next_more _ c.args.first.now c.args.columns.now c.args.marks.now _ _ _ c.loop-i.i _ (omega arith) c.requires c.next_mark.ensures c.in_ok-push.ensures.items c.loop-i.invariant

pub returns : goal.returns
returns c =
    let le : length c.args.first.now ≤ c.loop-i.i = omega arith in
    next_done c.args.first.now _ _ _ _ c.loop-i.i le c.loop-i.invariant
