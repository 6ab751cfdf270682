use Rattle.std.proofs.Common.{◌∙◌}
use Rattle.o2_regions.specs.contracts.regions.Regions.{the_view}
use Rattle.o2_regions.proofs.Keeps.{next-held}
use Rattle.o2_regions.proofs.regions.Regions.next_held.Goals as goal

pub returns : goal.returns
returns c =
    rw (← c.self.view_is) (c.lowest_marked.ensures ∙ next-held (the_view c.self.inside) c.self.inside.marks c.args.pid c.args.from c.self.invariant.1)
