use Rattle.std.proofs.Common.{◌≡◌, ◌≤◌, ◌+◌, ◌++◌, length, take}
use Rattle.o2_stepping.specs.Rooms.{seated_in, under_all}
use Rattle.o2_stepping.proofs.seats.call_need.Given as goal

abbrev pub invariant-loop-selector : goal.invariant-loop-selector
invariant-loop-selector l = record {
  so_far : l.need ≡ seated_in l.regions l.pid l.cpu ++ under_all l.regions l.pid (take l.selector-index l.selector-items);
  few : length l.need ≤ 4 + l.selector-index;
}
