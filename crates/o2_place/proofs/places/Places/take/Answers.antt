use Rattle.std.proofs.Common.{arith, rules, ◌≡◌, length, vec_len, sym}
use Rattle.std.proofs.lemmas.List.{length-set}
use Rattle.o2_place.specs.Spots.{no_spot}
use Rattle.o2_place.proofs.RangeLemmas.{without-fresh}
use Rattle.o2_place.proofs.SpotLemmas.{taken_is, unranked}
use Rattle.o2_place.proofs.places.Places.take.Goals as goal

pub remove-requires : goal.remove-requires
remove-requires c =
    let i = c.self.inside in
    let t = taken_is i.ranges.items i.spots.items i.size i.taken c.args.id c.slot_for-i.result c.index-spot.result.now c.self.invariant.0
    (rw (← c.self.view_is) at c.requires) c.index-spot.ensures c.if-spot-eq0.false (rw c.deref.ensures.value at
    c.slot_for-i.ensures.before) (rw c.deref.ensures.value at c.slot_for-i.ensures.after) in
    let e : vec_len i.ranges ≡ length i.ranges.items = search rules in
    omega (arith, t.within, e)

pub overflow_sub-self : goal.overflow_sub-self
overflow_sub-self c =
    let i = c.self.inside in
    let t = taken_is i.ranges.items i.spots.items i.size i.taken c.args.id c.slot_for-i.result c.index-spot.result.now c.self.invariant.0
    (rw (← c.self.view_is) at c.requires) c.index-spot.ensures c.if-spot-eq0.false (rw c.deref.ensures.value at
    c.slot_for-i.ensures.before) (rw c.deref.ensures.value at c.slot_for-i.ensures.after) in
    t.less

pub invariant_of-self : goal.invariant_of-self
invariant_of-self c =
    let i = c.self.inside in
    let t = taken_is i.ranges.items i.spots.items i.size i.taken c.args.id c.slot_for-i.result c.index-spot.result.now c.self.invariant.0
    (rw (← c.self.view_is) at c.requires) c.index-spot.ensures c.if-spot-eq0.false (rw c.deref.ensures.value at
    c.slot_for-i.ensures.before) (rw c.deref.ensures.value at c.slot_for-i.ensures.after) in
    let n = length-set i.spots.items c.args.id no_spot in (
      t.places c.remove.new.self.items c.remove.ensures.items,
      omega (arith, n, c.self.invariant.1, c.remove.ensures.capacity),
      omega
          (arith, n, c.self.invariant.2),
    )

pub returns-clause-taken : goal.returns-clause-taken
returns-clause-taken c =
    let i = c.self.inside in
    let t = taken_is i.ranges.items i.spots.items i.size i.taken c.args.id c.slot_for-i.result c.index-spot.result.now c.self.invariant.0
    (rw (← c.self.view_is) at c.requires) c.index-spot.ensures c.if-spot-eq0.false (rw c.deref.ensures.value at
    c.slot_for-i.ensures.before) (rw c.deref.ensures.value at c.slot_for-i.ensures.after) in
    rw (← c.self.view_is) (t.changes c.remove.new.self.items c.remove.ensures.items)

pub returns-clause-used : goal.returns-clause-used
returns-clause-used c =
    let i = c.self.inside in
    let t = taken_is i.ranges.items i.spots.items i.size i.taken c.args.id c.slot_for-i.result c.index-spot.result.now c.self.invariant.0
    (rw (← c.self.view_is) at c.requires) c.index-spot.ensures c.if-spot-eq0.false (rw c.deref.ensures.value at
    c.slot_for-i.ensures.before) (rw c.deref.ensures.value at c.slot_for-i.ensures.after) in
    rw (← c.self.view_is) (t.fewer c.remove.new.self.items c.remove.ensures.items)

pub returns-clause-order : goal.returns-clause-order
returns-clause-order c =
    let i = c.self.inside in
    let t = taken_is i.ranges.items i.spots.items i.size i.taken c.args.id c.slot_for-i.result c.index-spot.result.now c.self.invariant.0
    (rw (← c.self.view_is) at c.requires) c.index-spot.ensures c.if-spot-eq0.false (rw c.deref.ensures.value at
    c.slot_for-i.ensures.before) (rw c.deref.ensures.value at c.slot_for-i.ensures.after) in
    rw (← c.self.view_is) (t.order c.remove.new.self.items c.remove.ensures.items)

pub returns-clause-free : goal.returns-clause-free
returns-clause-free c =
    let i = c.self.inside in
    let t = taken_is i.ranges.items i.spots.items i.size i.taken c.args.id c.slot_for-i.result c.index-spot.result.now c.self.invariant.0
    (rw (← c.self.view_is) at c.requires) c.index-spot.ensures c.if-spot-eq0.false (rw c.deref.ensures.value at
    c.slot_for-i.ensures.before) (rw c.deref.ensures.value at c.slot_for-i.ensures.after) in
    rw (← c.self.view_is) (t.free c.remove.new.self.items c.remove.ensures.items)

pub returns-then-spot-eq0-clause-order : goal.returns-then-spot-eq0-clause-order
returns-then-spot-eq0-clause-order c =
    let i = c.self.inside in
    rw (← c.self.view_is) (sym (without-fresh i.ranges.items c.args.id (unranked i.ranges.items i.spots.items i.size i.taken c.args.id
    c.index-spot.result.now c.self.invariant.0 (rw (← c.self.view_is) at c.requires) c.index-spot.ensures c.if-spot-eq0.true)))
