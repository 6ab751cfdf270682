use Rattle.std.proofs.Common.{ℕ, ◌≤◌, slice_index, below_more}
use Rattle.o2_place.specs.Marks.{IsKept}
use Rattle.o2_place.proofs.clock.first_outside.Goals as goal

pub loop-i-preserved : goal.loop-i-preserved
loop-i-preserved c j l m = below_more (λ (j : ℕ). c.args.from ≤ j → IsKept c.args.keep.now (slice_index c.args.ring.now j)) c.loop-i.i (λ j m l. c.loop-i.invariant j l m) (λ l. c.holds.ensures.yes c.if-not-holds.false) j m l
