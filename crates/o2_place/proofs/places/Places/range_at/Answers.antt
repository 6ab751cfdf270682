use Rattle.std.proofs.lemmas.List.{get_or_read}
use Rattle.o2_place.specs.Layout.{no_range}
use Rattle.o2_place.proofs.places.Places.range_at.Goals as goal

pub returns : goal.returns
returns c = rw (← c.self.view_is) (get_or_read c.self.inside.ranges.items c.args.k c.index.result.now (rw (← c.self.view_is) at c.requires) c.index.ensures no_range)
