use Rattle.std.proofs.Common.{refl}
use Rattle.o2_segs.proofs.Limits.{limits_held}
use Rattle.o2_segs.proofs.Sharing.{new_made}
use Rattle.o2_changes.proofs.Framing.{order_held}
use Rattle.o2_segs.proofs.allocating.hold_made.Goals as goal

pub returns-clause-limits : goal.returns-clause-limits
returns-clause-limits c =
    limits_held c.args.store.now c.args.regions.now c.hold_new.new.regions c.args.pid c.args.index _ _ refl (new_made c.args.regions.now c.args.pid c.args.index c.args.id c.law.ensures c.requires.free c.requires.unheld) c.hold_new.ensures.grants

pub returns-clause-goes_on : goal.returns-clause-goes_on
returns-clause-goes_on c = order_held c.args.store.now c.args.regions.now c.hold_new.new.regions c.hold_new.ensures.order (c.hold_new.ensures.guards (λ w. c.requires.plain))
