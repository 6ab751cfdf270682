use Rattle.std.proofs.Common.{◌≡◌, ◌-◌, take}
use Rattle.o2_dynlink.specs.Outcome.{modules_of}
use Rattle.o2_opening.specs.Libraries.{library_indexes}
use Rattle.o2_opening.proofs.reserving.library_indexes.Given as goal

abbrev pub invariant-loop-place : goal.invariant-loop-place
invariant-loop-place l = record { count : l.count ≡ library_indexes (take (l.place - 1) (modules_of l.images)) }
