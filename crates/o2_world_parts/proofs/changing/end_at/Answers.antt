use Rattle.std.proofs.Common.{arith}
use Rattle.o2_world_parts.specs.Pairs.{ended}
use Rattle.o2_world_parts.proofs.Places.{number-set}
use Rattle.o2_world_parts.proofs.changing.end_at.Goals as goal

pub returns-then-number-len : goal.returns-then-number-len
returns-then-number-len c = number-set c.args.processes.now.items c.args.number (ended c.args.state) c.index_mut.result.now c.end.new.process (omega arith) (omega arith) c.index_mut.ensures.value c.end.ensures
