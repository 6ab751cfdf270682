use Rattle.std.proofs.Common.{arith}
use Rattle.o2_world_parts.specs.Pairs.{with_more}
use Rattle.o2_world_parts.proofs.Places.{number-ok}
use Rattle.o2_world_parts.proofs.changing.hold_at.Goals as goal

pub returns : goal.returns
returns c = number-ok c.hold.result c.args.processes.now.items c.args.number (with_more c.args.index c.args.held.now) c.index_mut.result.now c.hold.new.process (omega arith) (omega arith) c.index_mut.ensures.value c.hold.ensures
