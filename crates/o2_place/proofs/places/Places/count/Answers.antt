use Rattle.std.proofs.Common.{arith}
use Rattle.o2_place.proofs.SpotLemmas.{few}
use Rattle.o2_place.proofs.places.Places.count.Goals as goal

pub overflow_cast-result : goal.overflow_cast-result
overflow_cast-result c = let i = c.self.inside in let f = few i.ranges.items i.spots.items i.size i.taken c.self.invariant.0 in omega (arith, f, c.self.invariant.2)

pub returns-clause-few : goal.returns-clause-few
returns-clause-few c = let i = c.self.inside in let f = few i.ranges.items i.spots.items i.size i.taken c.self.invariant.0 in rw (← c.self.view_is) (omega (arith, f))
