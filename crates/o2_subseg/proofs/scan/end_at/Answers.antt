use Rattle.std.proofs.Common.{◌+◌, ◌-◌, sym, ◌∙◌, arith}
use Rattle.o2_subseg.proofs.Walks.{link_block, rest_begins, rest_on, rest_ends, rest_fails, rest_done}
use Rattle.o2_subseg.proofs.scan.end_at.Goals as goal

pub loop-passed-init : goal.loop-passed-init
loop-passed-init c = record {
  inside = omega arith;
  low = omega arith;
  rest = rest_begins c.args.spot c.args.bytes.now c.args.spot.size _ _ _ _ _ (omega arith) (omega arith);
}

pub loop-passed-preserved : goal.loop-passed-preserved
loop-passed-preserved c =
    let bytes = c.args.bytes.now in
    let size = c.args.spot.size in
    let n = c.args.count - (c.loop-passed._passed + 1) in
    let m = c.args.count - c.loop-passed._passed in
    let next = c.in-To.next in
    let b = link_block bytes size c.loop-passed.low c.loop-passed.link next c.in-To.ensures in
    record {
      inside = omega (arith, b.long, b.within);
      low = omega arith;
      rest = c.loop-passed.invariant.rest
          ∙ rest_on c.args.spot bytes size c.loop-passed.low c.loop-passed.link n m _ _ next c.in-To.ensures (omega arith) (omega arith) (omega arith);
    }

pub returns-in-End : goal.returns-in-End
returns-in-End c =
    rest_ends c.args.spot c.args.bytes.now c.args.spot.size c.loop-passed.low c.loop-passed.link (c.args.count - c.loop-passed._passed) c.in-End.ensures (omega arith)
    ∙ sym c.loop-passed.invariant.rest

pub returns-in-Bad : goal.returns-in-Bad
returns-in-Bad c =
    rest_fails c.args.spot c.args.bytes.now c.args.spot.size c.loop-passed.low c.loop-passed.link (c.args.count - c.loop-passed._passed) c.in-Bad.ensures (omega arith)
    ∙ sym c.loop-passed.invariant.rest

pub returns : goal.returns
returns c =
    rest_done c.args.spot c.args.bytes.now c.args.spot.size c.loop-passed.low c.loop-passed.link (c.args.count - c.loop-passed._passed) (omega arith)
    ∙ sym c.loop-passed.invariant.rest
