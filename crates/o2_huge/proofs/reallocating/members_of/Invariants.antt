use Rattle.std.proofs.Common.{◌+◌}
use Rattle.o2_huge.specs.Growth.{AreMembers}
use Rattle.o2_huge.proofs.reallocating.members_of.Given as goal

abbrev pub invariant-loop-place : goal.invariant-loop-place
invariant-loop-place l = AreMembers l.regions l.pid l.run.first l.run.first (l.run.first + l.place)
