use Rattle.std.proofs.Common.{◌+◌, ◌-◌, ◌/◌, sym, ◌∙◌, Some, None, arith}
use Rattle.o2_subseg.proofs.Searches.{spot}
use Rattle.o2_subseg.proofs.Walks.{behind_passed, link_block, walk_begins, walk_found, walk_on, walk_ends, walk_fails, walk_done}
use Rattle.o2_subseg.proofs.scan.walk.Goals as goal

pub loop-passed-init : goal.loop-passed-init
loop-passed-init c = record {
  inside = omega arith;
  low = omega arith;
  rest = walk_begins c.args.bytes.now c.args.seek c.args.size _ c.from-low.result (omega arith) (omega arith);
}

pub loop-passed-preserved : goal.loop-passed-preserved
loop-passed-preserved c =
    let bytes = c.args.bytes.now in
    let n = c.args.size / 4 - (c.loop-passed.passed + 1) in
    let m = c.args.size / 4 - c.loop-passed.passed in
    let block = c.in-To.block in
    let b = link_block bytes c.args.size c.loop-passed.low c.loop-passed.link block c.in-To.ensures in
    record {
      inside = omega (arith, b.long, b.within);
      low = omega arith;
      rest = c.loop-passed.invariant.rest
          ∙ walk_on bytes c.args.seek c.args.size c.loop-passed.low c.loop-passed.link n m _ _ (spot c.args.size c.loop-passed.before None) (spot c.args.size (Some block) None) block
          c.in-To.ensures (behind_passed c.args.seek c.args.size c.loop-passed.before block (sym c.passes.ensures ∙ c.if-passes.false)) (omega arith) (omega arith) (omega arith);
    }

pub end_at-requires-clause-inside : goal.end_at-requires-clause-inside
end_at-requires-clause-inside c =
    let b = link_block c.args.bytes.now c.args.size c.loop-passed.low c.loop-passed.link c.in-To.block c.in-To.ensures in
    omega (arith, b.long, b.within)

pub returns-then-passes : goal.returns-then-passes
returns-then-passes c =
    let bytes = c.args.bytes.now in
    let n = c.args.size / 4 - c.loop-passed.passed - 1 in
    let m = c.args.size / 4 - c.loop-passed.passed in
    c.end_at.ensures
    ∙ walk_found bytes c.args.seek c.args.size c.loop-passed.low c.loop-passed.link n m c.loop-passed.before c.in-To.block c.in-To.ensures
    (sym c.passes.ensures ∙ c.if-passes.true) (omega arith)
    ∙ sym c.loop-passed.invariant.rest

pub returns-in-End : goal.returns-in-End
returns-in-End c =
    walk_ends c.args.bytes.now c.args.seek c.args.size c.loop-passed.low c.loop-passed.link (c.args.size / 4 - c.loop-passed.passed) (spot c.args.size c.loop-passed.before None)
    c.in-End.ensures (omega arith)
    ∙ sym c.loop-passed.invariant.rest

pub returns-in-Bad : goal.returns-in-Bad
returns-in-Bad c =
    walk_fails c.args.bytes.now c.args.seek c.args.size c.loop-passed.low c.loop-passed.link (c.args.size / 4 - c.loop-passed.passed) (spot c.args.size c.loop-passed.before None)
    c.in-Bad.ensures (omega arith)
    ∙ sym c.loop-passed.invariant.rest

pub returns : goal.returns
returns c =
    walk_done c.args.bytes.now c.args.seek c.args.size c.loop-passed.low c.loop-passed.link (c.args.size / 4 - c.loop-passed.passed) (spot c.args.size c.loop-passed.before None) (omega arith)
    ∙ sym c.loop-passed.invariant.rest
