use Rattle.o2_regions.specs.contracts.regions.Regions.{the_view}
use Rattle.o2_regions.proofs.Reserves.{AreKept-release}
use Rattle.o2_regions.proofs.regions.Regions.release.Goals as goal

pub invariant_of-self : goal.invariant_of-self
invariant_of-self c =
    let m = the_view c.self.inside in
    let k = AreKept-release m c.args.region c.args.first c.args.count c.self.invariant.0 (rw (← c.self.view_is) at c.requires.region) c.requires.from c.requires.to (rw (← c.self.view_is) at c.requires.unheld) in
    (rw (c.fill.ensures, c.base.ensures) k, c.self.invariant.1, c.self.invariant.2, c.self.invariant.3)
