use Rattle.std.proofs.Common.{arith}
use Rattle.o2_world_parts.proofs.Gone.{behind}
use Rattle.o2_world_parts.proofs.Mapped.{over_more}
use Rattle.o2_world_parts.proofs.discarding.discard_all.Goals as goal

pub loop-k-preserved : goal.loop-k-preserved
loop-k-preserved c = over_more (behind c.args.processes.now) c.args.names.now.items c.loop-k.names.items c.loop-k.k c.index_mut.result.now c.discard_where_it_goes.new.pair (omega arith) c.loop-k.invariant c.index_mut.ensures.value c.discard_where_it_goes.ensures
