use Rattle.std.proofs.Common.{◌-◌, arith}
use Rattle.o2_regions.specs.contracts.regions.Regions.{the_view}
use Rattle.o2_regions.proofs.Wholes.{at_least_one, AreWhole-more}
use Rattle.o2_regions.proofs.regions.Regions.drop_one.Goals as goal

pub overflow_sub-left : goal.overflow_sub-left
overflow_sub-left c =
    let s = c.self.inside in
    omega (
      arith,
      at_least_one (the_view s) s.marks s.next.items s.prev.items c.args.pid c.args.index c.index.result.now c.self.invariant (rw (← c.self.view_is) at c.requires.process) c.requires.index
          (rw c.place_of-place.ensures at c.index.ensures) c.in-Some.was c.in-Some.is,
    )

pub invariant_of-self-else-left-eq0 : goal.invariant_of-self-else-left-eq0
invariant_of-self-else-left-eq0 c =
    let s = c.self.inside in
    rw c.place_of-place.ensures (AreWhole-more (the_view s) s.marks s.next.items s.prev.items c.args.pid c.args.index c.index.result.now c.self.invariant (rw (← c.self.view_is) at c.requires.process) c.requires.index
    (rw c.place_of-place.ensures at c.index.ensures) c.in-Some.was (c.in-Some.was.holds - 1) c.in-Some.is (omega arith))
