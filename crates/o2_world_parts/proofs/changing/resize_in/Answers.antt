use Rattle.std.proofs.Common.{arith}
use Rattle.o2_world_parts.specs.Pairs.{with_size}
use Rattle.o2_world_parts.proofs.Mapped.{keyed_set}
use Rattle.o2_world_parts.proofs.changing.resize_in.Goals as goal

pub loop-k-preserved : goal.loop-k-preserved
loop-k-preserved c = keyed_set c.args.name (with_size c.args.size) c.args.names.now.items c.loop-k.names.items c.loop-k.k c.index_mut.result.now c.resize_pair.new.pair (omega arith) c.loop-k.invariant c.index_mut.ensures.value c.in_ok-resize_pair.ensures
