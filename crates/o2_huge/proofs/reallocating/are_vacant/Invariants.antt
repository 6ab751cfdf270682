use Rattle.std.proofs.Common.{◌+◌}
use Rattle.o2_huge.specs.Growth.{AreVacant}
use Rattle.o2_huge.proofs.reallocating.are_vacant.Given as goal

abbrev pub invariant-loop-place : goal.invariant-loop-place
invariant-loop-place l = AreVacant l.regions l.pid l.from (l.from + l.place)
