use Rattle.std.proofs.Common.{arith}
use Rattle.o2_opening.proofs.Clearing.{one_free}
use Rattle.o2_opening.proofs.loading.reserve_own.Goals as goal

pub reserve-requires-clause-free : goal.reserve-requires-clause-free
reserve-requires-clause-free c = (c.requires.some, omega (arith, c.if-index-lt-FIRST_SHARED.true), one_free c.args.regions.now c.args.pid c.args.index c.requires.unheld (c.requires.free c.if-index-lt-FIRST_SHARED.true))
