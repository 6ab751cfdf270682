use Rattle.o2_shared.proofs.NewNames.{run_shared}
use Rattle.o2_changes.proofs.Framing.{order_held}
use Rattle.o2_shared.proofs.allocating.hold_named.Goals as goal

pub hold_new-requires-clause-free : goal.hold_new-requires-clause-free
hold_new-requires-clause-free c = run_shared c.args.regions.now c.args.pid c.args.index c.requires.free

pub returns-clause-goes_on : goal.returns-clause-goes_on
returns-clause-goes_on c = order_held c.args.store.now c.args.regions.now c.hold_new.new.regions c.hold_new.ensures.order (c.hold_new.ensures.guards (λ w. c.requires.plain))
