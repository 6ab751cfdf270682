use Rattle.std.proofs.Common.{arith}
use Rattle.o2_place.proofs.SpotLemmas.{ranked, few}
use Rattle.o2_place.proofs.places.Places.rank.Goals as goal

pub overflow_cast-result : goal.overflow_cast-result
overflow_cast-result c =
    let i = c.self.inside in
    let f = few i.ranges.items i.spots.items i.size i.taken c.self.invariant.0 in
    let w = rw c.deref.ensures.value at c.slot_for.ensures.within in
    omega (arith, f, w, c.self.invariant.2)

pub returns-clause-some : goal.returns-clause-some
returns-clause-some c =
    let i = c.self.inside in
    rw (← c.self.view_is) (ranked i.ranges.items i.spots.items i.size i.taken c.args.id c.slot_for.result c.index-spot.result.now
    c.self.invariant.0 (rw (← c.self.view_is) at c.requires) c.index-spot.ensures c.if-spot-eq0.false
    (rw c.deref.ensures.value at c.slot_for.ensures.before) (rw c.deref.ensures.value at c.slot_for.ensures.after))
