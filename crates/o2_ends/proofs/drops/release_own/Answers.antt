use Rattle.std.proofs.Common.{ap, subst, sym}
use Rattle.std.specs.Prelude.{is_some}
use Rattle.o2_regions.specs.Maps.{Maps}
use Rattle.o2_ends.specs.LetsGo.{FreesOwn}
use Rattle.o2_ends.proofs.Dropping.{own_freed}
use Rattle.o2_ends.proofs.drops.release_own.Goals as goal

pub release-requires-clause-unheld : goal.release-requires-clause-unheld
release-requires-clause-unheld c = λ i a b. ap is_some (c.requires.none i)

pub returns : goal.returns
returns c = subst (λ (m : Maps). FreesOwn c.args.regions.now m c.args.pid) (sym c.release.ensures) (own_freed c.args.regions.now c.args.pid c.law.ensures c.requires.process)
