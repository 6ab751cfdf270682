use Rattle.std.proofs.Common.{◌≡◌}
use Rattle.o2_place.specs.Layout.{end_before, IsPacked}
use Rattle.o2_compact.specs.Parts.{KeepsParts}
use Rattle.o2_compact.proofs.Fronts.{HaveSlid}
use Rattle.o2_compact.proofs.close_up.Given as goal

abbrev pub invariant-loop-k : goal.invariant-loop-k
invariant-loop-k l = record {
  kept : KeepsParts l.initial.phys l.initial.places l.phys l.places;
  packed : IsPacked l.places.ranges l.k;
  ends : l.end ≡ end_before 0 l.places.ranges l.k;
  slid : HaveSlid l.initial.places l.places l.front l.k l.end;
}
