use Rattle.std.proofs.Common.{◌≡◌, ◌≤◌, ◌+◌, take}
use Rattle.o2_place.specs.Layout.{used, start_of, IsPacked, range_at}
use Rattle.o2_compact.specs.Parts.{KeepsParts}
use Rattle.o2_compact.proofs.widen.Given as goal

abbrev pub invariant-loop-k : goal.invariant-loop-k
invariant-loop-k l = record {
  kept : KeepsParts l.initial.phys l.initial.places l.phys l.places;
  packed : IsPacked l.places.ranges l.k;
  room : used (take l.k l.places.ranges) + l.growth ≤ start_of l.places.size l.places.ranges l.k;
  here : range_at l.places.ranges l.i ≡ range_at l.initial.places.ranges l.i;
  low : l.i + 1 ≤ l.k;
}
