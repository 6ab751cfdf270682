use Rattle.std.proofs.Common.{◌-◌, arith}
use Rattle.o2_compact.proofs.Fronts.{range_ends, below_end, first_end}
use Rattle.o2_compact.proofs.end_below.Goals as goal

pub overflow_add-result : goal.overflow_add-result
overflow_add-result c =
    let e = range_ends c.args.places.now (c.args.k - 1) c.range_at-below.result c.law.ensures.layout (omega (arith, c.requires, c.if-k-eq0.false)) c.range_at-below.ensures in
    omega (arith, e, c.law.ensures.small)

pub returns-then-k-eq0 : goal.returns-then-k-eq0
returns-then-k-eq0 c = first_end c.args.places.now c.args.k c.if-k-eq0.true

pub returns : goal.returns
returns c = below_end c.args.places.now c.args.k c.range_at-below.result c.requires (omega (arith, c.if-k-eq0.false)) c.range_at-below.ensures
