use Rattle.o2_store.proofs.Ready.{ready_remove}
use Rattle.test_store_calls.proofs.calls.remove.Goals as goal

pub returns-clause-ready : goal.returns-clause-ready
returns-clause-ready g c = ready_remove c.remove.result c.args.store.now c.remove.new.self c.args.images.now (g.S.SwapDevice.blocks c.args.swap.now) c.args.id.key c.law.ensures.shelf c.requires c.remove.ensures.stale c.remove.ensures.removed c.remove.ensures.map
