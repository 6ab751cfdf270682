use Rattle.o2_regions.specs.contracts.regions.Regions.{the_view}
use Rattle.o2_regions.proofs.Telling.{told_maps}
use Rattle.o2_regions.proofs.regions.Regions.describe.Goals as goal

pub returns : goal.returns
returns c =
    let m = the_view c.self.inside in
    let lengths = c.describe.ensures.lengths in
    rw (← c.self.view_is) (told_maps m c.describe.new.tables c.args.id c.args.base c.args.limit lengths c.describe.ensures.beyond (rw c.deref.ensures.value at c.describe.ensures.entries))
