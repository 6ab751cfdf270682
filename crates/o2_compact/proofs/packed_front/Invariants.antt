use Rattle.std.proofs.Common.{◌≡◌}
use Rattle.o2_place.specs.Layout.{end_before, IsPacked}
use Rattle.o2_compact.proofs.packed_front.Given as goal

abbrev pub invariant-loop-k : goal.invariant-loop-k
invariant-loop-k l = record {
  packed : IsPacked l.places.ranges l.k;
  ends : l.end ≡ end_before 0 l.places.ranges l.k;
}
