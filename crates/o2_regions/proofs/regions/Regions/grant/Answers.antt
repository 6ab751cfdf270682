use Rattle.std.proofs.Common.{◌+◌, arith, refl}
use Rattle.o2_regions.specs.contracts.regions.Regions.{the_view}
use Rattle.o2_regions.specs.Maps.{fresh}
use Rattle.o2_regions.proofs.Wholes.{at_least_one, AreWhole-more, AreWhole-new}
use Rattle.o2_regions.proofs.regions.Regions.grant.Goals as goal

pub invariant_of-self : goal.invariant_of-self
invariant_of-self c =
    let s = c.self.inside in
    let n = c.in-Some.was.holds + c.args.held.holds in
    let h = at_least_one (the_view s) s.marks s.next.items s.prev.items c.args.pid c.args.index c.index.result.now c.self.invariant (rw (← c.self.view_is) at c.requires.process) c.requires.index
    (rw c.place_of-place.ensures at c.index.ensures) c.in-Some.was c.in-Some.is in
    rw c.place_of-place.ensures (AreWhole-more (the_view s) s.marks s.next.items s.prev.items c.args.pid c.args.index c.index.result.now c.self.invariant (rw (← c.self.view_is) at c.requires.process) c.requires.index
    (rw c.place_of-place.ensures at c.index.ensures) c.in-Some.was n c.in-Some.is (omega arith))

pub invariant_of-self-then-held-ne0 : goal.invariant_of-self-then-held-ne0
invariant_of-self-then-held-ne0 c =
    let s = c.self.inside in
    let at = c.place_of-place.ensures in
    let next = rw (at, c.deref.ensures.value) at (c.link.ensures.next c.args.held refl) in
    let prev = rw (at, c.deref.ensures.value) at (c.link.ensures.prev c.args.held refl) in
    let w = AreWhole-new (the_view s) s.marks s.next.items s.prev.items c.args.pid c.args.index c.index.result.now c.self.invariant (rw (← c.self.view_is) at c.requires.process) c.requires.index
    (rw at at c.index.ensures) c.args.held (fresh c.args.access) c.link.new.next.items c.link.new.prev.items (omega arith) (rw (← c.self.view_is) at c.requires.reserved) next prev in
    rw (c.set.ensures, c.set_entry.ensures, at) w
