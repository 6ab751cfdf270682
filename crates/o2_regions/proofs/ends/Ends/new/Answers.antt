use Rattle.std.proofs.Common.{arith, rules}
use Rattle.o2_regions.proofs.Writes.{started_none, started_more}
use Rattle.o2_regions.proofs.ends.Ends.new.Goals as goal

pub loop-pid-init : goal.loop-pid-init
loop-pid-init c = started_none c.in_ok-live.live.items (search rules)

pub loop-pid-preserved : goal.loop-pid-preserved
loop-pid-preserved c = started_more c.loop-pid.live.items c.loop-pid.pid (omega arith) (omega arith) c.loop-pid.invariant
