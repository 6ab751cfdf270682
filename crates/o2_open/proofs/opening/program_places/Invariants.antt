use Rattle.std.proofs.Common.{◌≡◌, take}
use Rattle.o2_open.proofs.opening.program_places.Given as goal

abbrev pub invariant-loop-k : goal.invariant-loop-k
invariant-loop-k l = record { so_far : l.places.items ≡ take l.k l.linked.programs }
