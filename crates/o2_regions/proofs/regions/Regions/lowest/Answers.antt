use Rattle.std.proofs.Common.{◌∙◌}
use Rattle.o2_regions.specs.contracts.regions.Regions.{the_view}
use Rattle.o2_regions.specs.Maps.{end_of, first_of, is_taken}
use Rattle.o2_regions.proofs.Reserves.{chosen-taken}
use Rattle.o2_regions.proofs.Scans.{run_of}
use Rattle.o2_regions.proofs.regions.Regions.lowest.Goals as goal

pub returns-clause-lowest : goal.returns-clause-lowest
returns-clause-lowest c =
    rw (← c.self.view_is) ((rw (c.base.ensures, c.first_index.ensures, c.end_index.ensures) at c.lowest_clear.ensures) ∙ chosen-taken (the_view c.self.inside) c.args.region c.args.count c.self.invariant.0)

pub returns-clause-free : goal.returns-clause-free
returns-clause-free c =
    let m = the_view c.self.inside in
    let g = c.args.region in
    let e = (rw (c.base.ensures, c.first_index.ensures, c.end_index.ensures) at c.lowest_clear.ensures) ∙ chosen-taken m g c.args.count c.self.invariant.0 in
    rw (← c.self.view_is) (run_of (is_taken m g) (first_of g) (end_of g) c.args.count c.lowest_clear.result e)
