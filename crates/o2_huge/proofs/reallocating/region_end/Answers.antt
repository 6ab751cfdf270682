use Rattle.std.proofs.Common.{ap, arith, sym}
use Rattle.o2_regions.specs.Maps.{end_of}
use Rattle.o2_regions.proofs.Reserves.{is_private, is_shared}
use Rattle.o2_huge.proofs.reallocating.region_end.Goals as goal

pub returns-then-index-lt-SHARED-clause-end : goal.returns-then-index-lt-SHARED-clause-end
returns-then-index-lt-SHARED-clause-end c = λ pid. sym (ap end_of (is_private pid c.args.index c.if-index-lt-SHARED.true))

pub returns-else-index-lt-SHARED-clause-end : goal.returns-else-index-lt-SHARED-clause-end
returns-else-index-lt-SHARED-clause-end c = λ pid. sym (ap end_of (is_shared pid c.args.index (omega (arith, c.if-index-lt-SHARED.false))))
