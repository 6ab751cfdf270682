use Rattle.std.proofs.Common.{◌≡◌, drop}
use Rattle.o2_place.specs.Layout.{AreLaid}
use Rattle.o2_place.proofs.RangeLemmas.{fit_from}
use Rattle.o2_place.proofs.ranges.lowest_free.Given as goal

abbrev pub invariant-loop-r : goal.invariant-loop-r
invariant-loop-r l = record {
  laid : AreLaid l.low l.size (drop l.r-index l.ranges);
  same : fit_from l.low l.size l.len (drop l.r-index l.ranges) ≡ fit_from 0 l.size l.len l.ranges;
}
