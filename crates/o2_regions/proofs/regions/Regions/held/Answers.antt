use Rattle.o2_regions.specs.contracts.regions.Regions.{the_view}
use Rattle.o2_regions.proofs.Keeps.{held_read, counted_read}
use Rattle.o2_regions.proofs.regions.Regions.held.Goals as goal

pub returns-clause-counted : goal.returns-clause-counted
returns-clause-counted c =
    let m = the_view c.self.inside in
    counted_read m c.args.pid c.args.index c.index.result.now c.self.invariant.0
    (held_read m c.args.pid c.args.index c.index.result.now c.self.invariant.0 (rw (← c.self.view_is) at c.requires.process) c.requires.index (rw c.place_of.ensures at c.index.ensures))
