use Rattle.std.proofs.Common.{refl, sym}
use Rattle.o2_segs.proofs.FreeingRuns.{none_taken}
use Rattle.o2_segs.proofs.Limits.{limits_refl}
use Rattle.o2_changes.proofs.Framing.{order_refl}
use Rattle.o2_segs.proofs.freeing.drop_at.Goals as goal

pub returns-clause-takes : goal.returns-clause-takes
returns-clause-takes c = none_taken c.args.regions.now c.args.pid c.args.index (sym c.in_default.ensures.held)

pub returns-clause-limits : goal.returns-clause-limits
returns-clause-limits c = limits_refl c.args.store.now c.args.regions.now

pub returns-clause-places : goal.returns-clause-places
returns-clause-places c = λ k some. refl

pub returns-clause-goes_on : goal.returns-clause-goes_on
returns-clause-goes_on c = order_refl c.args.store.now c.args.regions.now c.requires.order
