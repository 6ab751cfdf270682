use Rattle.std.proofs.Common.{arith}
use Rattle.o2_place.proofs.RangeLemmas.{used-le}
use Rattle.o2_place.proofs.places.Places.free_bytes.Goals as goal

pub overflow_sub-result : goal.overflow_sub-result
overflow_sub-result c = let h = c.self.invariant.0 in let b = used-le c.self.inside.ranges.items 0 c.self.inside.size h.layout.laid in omega (arith, b, h.counted)

pub returns : goal.returns
returns c = let h = c.self.invariant.0 in let b = used-le c.self.inside.ranges.items 0 c.self.inside.size h.layout.laid in rw (← c.self.view_is) (omega (arith, b, h.counted))
