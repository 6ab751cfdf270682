use Rattle.o2_regions.specs.contracts.regions.Regions.{the_view}
use Rattle.o2_regions.proofs.Reserves.{AreKept-reserve, run_reserved}
use Rattle.o2_regions.proofs.regions.Regions.reserve.Goals as goal

pub invariant_of-self : goal.invariant_of-self
invariant_of-self c =
    let m = the_view c.self.inside in
    let k = AreKept-reserve m c.args.region c.args.first c.args.count c.self.invariant.0 (rw (← c.self.view_is) at c.requires.region) c.requires.free.1 in
    (rw (c.fill.ensures, c.base.ensures) k, c.self.invariant.1, c.self.invariant.2, c.self.invariant.3)

pub returns-clause-reserved : goal.returns-clause-reserved
returns-clause-reserved c = λ i a b.
    rw (c.fill.ensures, c.base.ensures) (run_reserved (the_view c.self.inside) c.args.region c.args.first c.args.count i c.self.invariant.0 (rw (← c.self.view_is) at c.requires.region) c.requires.free.1 a b)
