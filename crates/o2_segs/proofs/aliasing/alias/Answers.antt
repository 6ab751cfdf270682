use Rattle.std.proofs.Common.{refl}
use Rattle.o2_segs.proofs.Limits.{limits_held, limits_refl}
use Rattle.o2_segs.proofs.Sharing.{new_alias, own_run}
use Rattle.o2_changes.proofs.Framing.{order_refl}
use Rattle.o2_segs.proofs.aliasing.alias.Goals as goal

pub returns-in-Some-clause-limits : goal.returns-in-Some-clause-limits
returns-in-Some-clause-limits c = limits_held c.args.store.now c.args.regions.now c.hold_new.new.regions c.args.pid c.in-Some.index _ _ refl
    (new_alias c.args.regions.now c.args.pid c.in-Some.index c.args.id c.law.ensures
    (own_run c.args.regions.now c.args.pid c.in-Some.index c.in-Some.ensures.free) c.requires.own) c.hold_new.ensures.grants

pub returns-in-None-clause-limits : goal.returns-in-None-clause-limits
returns-in-None-clause-limits c = limits_refl c.args.store.now c.args.regions.now

pub returns-in-None-clause-goes_on : goal.returns-in-None-clause-goes_on
returns-in-None-clause-goes_on c = order_refl c.args.store.now c.args.regions.now c.requires.order
