use Rattle.std.proofs.Common.{arith}
use Rattle.o2_compact.proofs.Steps.{gap_next, gap_last}
use Rattle.o2_compact.proofs.gap_end.Goals as goal

pub returns-then-next-gt1 : goal.returns-then-next-gt1
returns-then-next-gt1 c = gap_next c.args.places.now c.args.k c.range_at.result (omega (arith, c.count.ensures.count, c.if-next-gt1.true)) c.range_at.ensures

pub returns-else-next-gt1 : goal.returns-else-next-gt1
returns-else-next-gt1 c = gap_last c.args.places.now c.args.k c.size.result c.requires (omega (arith, c.count.ensures.count, c.if-next-gt1.false)) c.size.ensures
