use Rattle.std.proofs.Common.{arith}
use Rattle.o2_world_parts.specs.Pairs.{with_fewer}
use Rattle.o2_world_parts.proofs.Places.{number-ok}
use Rattle.o2_world_parts.proofs.changing.drop_at.Goals as goal

pub returns : goal.returns
returns c = number-ok c.drop_holds.result c.args.processes.now.items c.args.number (with_fewer c.args.index c.args.count) c.index_mut.result.now c.drop_holds.new.process (omega arith) (omega arith) c.index_mut.ensures.value c.drop_holds.ensures
