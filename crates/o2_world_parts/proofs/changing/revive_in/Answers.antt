use Rattle.std.proofs.Common.{arith, false}
use Rattle.o2_world.specs.Changes.{marked}
use Rattle.o2_world_parts.proofs.Mapped.{keyed_set}
use Rattle.o2_world_parts.proofs.changing.revive_in.Goals as goal

pub loop-k-preserved : goal.loop-k-preserved
loop-k-preserved c = keyed_set c.args.name (marked false) c.args.names.now.items c.loop-k.names.items c.loop-k.k c.index_mut.result.now c.revive_pair.new.pair (omega arith) c.loop-k.invariant c.index_mut.ensures.value c.revive_pair.ensures
