use Rattle.std.proofs.Common.{◌≡◌, take}
use Rattle.o2_service.proofs.need.Need.new.Given as goal

abbrev pub invariant-loop-k : goal.invariant-loop-k
invariant-loop-k l = l.need ≡ take l.k l.ids
