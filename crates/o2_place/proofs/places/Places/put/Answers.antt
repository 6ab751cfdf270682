use Rattle.std.proofs.Common.{◌<◌, ◌^◌, arith, rules, ap, ◌∙◌}
use Rattle.std.proofs.lemmas.List.{length-set}
use Rattle.o2_place.proofs.RangeLemmas.{used-le, ids-insert}
use Rattle.o2_place.specs.Layout.{ids_of, without}
use Rattle.o2_place.proofs.SpotLemmas.{IsPlaces-put, Changes-put, fewer}
use Rattle.o2_place.proofs.places.Places.put.Goals as goal

pub insert_at-requires-clause-room : goal.insert_at-requires-clause-room
insert_at-requires-clause-room c =
    let i = c.self.inside in
    let f = fewer i.ranges.items i.spots.items i.size i.taken c.args.id c.self.invariant.0 (rw (← c.self.view_is) at c.requires.id) (rw (← c.self.view_is) at c.requires.fresh) in
    omega (arith, f, c.self.invariant.1)

pub overflow_add-self : goal.overflow_add-self
overflow_add-self c =
    let i = c.self.inside in
    let h = IsPlaces-put i.ranges.items c.insert_at.new.ranges.items i.spots.items i.size i.taken c.slot_for-i.result c.args.id c.args.at c.args.len c.self.invariant.0 c.insert_at.ensures.items
    (rw (← c.self.view_is) at c.requires.id) (rw (← c.self.view_is) at c.requires.fresh) c.requires.some (rw (← c.self.view_is) at c.requires.free)
    (rw c.deref.ensures.value at c.slot_for-i.ensures.within) (rw c.deref.ensures.value at c.slot_for-i.ensures.before) (rw c.deref.ensures.value at c.slot_for-i.ensures.after) in
    let u = used-le c.insert_at.new.ranges.items 0 i.size h.layout.laid in
    let s : i.size < 2 ^ 32 = search rules in
    omega (arith, u, h.counted, s)

pub invariant_of-self : goal.invariant_of-self
invariant_of-self c =
    let i = c.self.inside in
    let h = IsPlaces-put i.ranges.items c.insert_at.new.ranges.items i.spots.items i.size i.taken c.slot_for-i.result c.args.id c.args.at c.args.len c.self.invariant.0 c.insert_at.ensures.items
    (rw (← c.self.view_is) at c.requires.id) (rw (← c.self.view_is) at c.requires.fresh) c.requires.some (rw (← c.self.view_is) at c.requires.free)
    (rw c.deref.ensures.value at c.slot_for-i.ensures.within) (rw c.deref.ensures.value at c.slot_for-i.ensures.before) (rw c.deref.ensures.value at c.slot_for-i.ensures.after) in
    let n = length-set i.spots.items c.args.id (record { at = c.args.at; len = c.args.len }) in
    (h, omega (arith, n, c.self.invariant.1, c.insert_at.ensures.capacity), omega (arith, n, c.self.invariant.2))

pub returns-clause-put : goal.returns-clause-put
returns-clause-put c =
    let i = c.self.inside in
    rw (← c.self.view_is) (Changes-put i.ranges.items c.insert_at.new.ranges.items i.spots.items i.size c.slot_for-i.result c.args.id c.args.at c.args.len c.insert_at.ensures.items (rw (← c.self.view_is) at c.requires.fresh) c.requires.some)

pub returns-clause-order : goal.returns-clause-order
returns-clause-order c =
    let i = c.self.inside in
    rw (← c.self.view_is) (ap (λ (xs : _). without c.args.id (ids_of xs)) c.insert_at.ensures.items ∙ ids-insert i.ranges.items c.slot_for-i.result (record { id = c.args.id; at = c.args.at; len = c.args.len }) (rw (← c.self.view_is) at c.requires.fresh))
