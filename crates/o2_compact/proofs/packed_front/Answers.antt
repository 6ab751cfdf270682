use Rattle.std.proofs.Common.{arith, sym}
use Rattle.o2_place.proofs.RangeLemmas.{end_before-zero}
use Rattle.o2_compact.proofs.Fronts.{range_ends, packed_next, next_end, all_packed, gap_before}
use Rattle.o2_compact.proofs.packed_front.Goals as goal

pub loop-k-init : goal.loop-k-init
loop-k-init c = record { packed = λ k l. absurd (omega arith); ends = sym (end_before-zero c.args.places.now.ranges 0) }

pub loop-k-preserved : goal.loop-k-preserved
loop-k-preserved c =
    let p = c.args.places.now in
    let i = c.loop-k.invariant in
    let l = c.loop-k-test.true in
    record {
      packed = packed_next p c.loop-k.k c.range_at-range.result c.law.ensures.layout (omega (arith, l, c.count-k-end.ensures.count)) i.packed c.range_at-range.ensures (omega (arith, i.ends, c.if-range-end.false));
      ends = next_end p c.loop-k.k c.range_at-range.result (omega (arith, l, c.count-k-end.ensures.count)) c.range_at-range.ensures;
    }

pub overflow_add-end : goal.overflow_add-end
overflow_add-end c =
    let e = range_ends c.args.places.now c.loop-k.k c.range_at-range.result c.law.ensures.layout (omega (arith, c.loop-k-test.true, c.count-k-end.ensures.count)) c.range_at-range.ensures in
    omega (arith, e, c.law.ensures.small)

pub returns-then-range-end-clause-gap : goal.returns-then-range-end-clause-gap
returns-then-range-end-clause-gap c = λ l. gap_before c.args.places.now c.loop-k.k c.loop-k.end c.range_at-range.result c.range_at-range.ensures c.loop-k.invariant.ends c.if-range-end.true

pub returns-clause-packed : goal.returns-clause-packed
returns-clause-packed c = all_packed c.args.places.now c.loop-k.k c.count.result (omega (arith, c.loop-k-test.false, c.count-k-end.ensures.count, c.count.ensures.count)) c.loop-k.invariant.packed
