use Rattle.o2_dump.proofs.Ranges.{last_of}
use Rattle.o2_dump.proofs.found.last_below.Goals as goal

pub returns-in-Some : goal.returns-in-Some
returns-in-Some c = last_of c.args.ranges.now c.args.top _ _ _ _ (c.range.ensures.in_range tt) c.in-Some.ensures.steps
