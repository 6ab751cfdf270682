use Rattle.std.proofs.Common.{◌<◌, ◌^◌, length, vec_len, ◌≡◌, arith, rules}
use Rattle.std.proofs.lemmas.List.{length-set, get_or_read}
use Rattle.o2_place.specs.Layout.{no_range}
use Rattle.o2_place.proofs.RangeLemmas.{used-le}
use Rattle.o2_place.proofs.SpotLemmas.{IsPlaces-reshape_read, id_read, reshaped_read}
use Rattle.o2_place.proofs.places.Places.reshape.Goals as goal

pub index_mut-requires-2 : goal.index_mut-requires-2
index_mut-requires-2 c =
    let i = c.self.inside in
    let e : vec_len i.spots ≡ length i.spots.items = search rules in
    let b = id_read i.ranges.items i.spots.items i.size i.taken c.args.k c.index-was.result.now c.index-was.ensures c.self.invariant.0 (rw (← c.self.view_is) at c.requires.within) in
    omega (arith, b, e)

pub overflow_add-self : goal.overflow_add-self
overflow_add-self c =
    let i = c.self.inside in
    let h = IsPlaces-reshape_read i.ranges.items i.spots.items i.size i.taken c.args.k c.args.at c.args.len c.index-was.result.now
    c.index-was.ensures c.self.invariant.0 (rw (← c.self.view_is) at c.requires.within) c.requires.some
    (rw (← c.self.view_is) at c.requires.above) (rw (← c.self.view_is) at c.requires.below) in
    let u = used-le _ 0 i.size h.layout.laid in
    let s : i.size < 2 ^ 32 = search rules in
    omega (arith, u, h.counted, s)

pub invariant_of-self : goal.invariant_of-self
invariant_of-self c =
    let i = c.self.inside in
    let h = IsPlaces-reshape_read i.ranges.items i.spots.items i.size i.taken c.args.k c.args.at c.args.len c.index-was.result.now
    c.index-was.ensures c.self.invariant.0 (rw (← c.self.view_is) at c.requires.within) c.requires.some
    (rw (← c.self.view_is) at c.requires.above) (rw (← c.self.view_is) at c.requires.below) in
    let n = length-set i.spots.items c.index-was.result.now.id (record { at = c.args.at; len = c.args.len }) in
    (h, omega (arith, n, c.self.invariant.1), omega (arith, n, c.self.invariant.2))

pub returns-clause-was : goal.returns-clause-was
returns-clause-was c =
    let i = c.self.inside in
    rw (← c.self.view_is) (get_or_read i.ranges.items c.args.k c.index-was.result.now (rw (← c.self.view_is) at c.requires.within) c.index-was.ensures no_range)

pub returns-clause-reshaped : goal.returns-clause-reshaped
returns-clause-reshaped c =
    let i = c.self.inside in
    let e = get_or_read i.ranges.items c.args.k c.index-was.result.now (rw (← c.self.view_is) at c.requires.within) c.index-was.ensures no_range in
    let n = length-set i.spots.items c.index-was.result.now.id (record { at = c.args.at; len = c.args.len }) in
    rw (← c.self.view_is) (reshaped_read i.ranges.items i.spots.items i.size c.args.k c.args.at c.args.len c.index-was.result.now e)
