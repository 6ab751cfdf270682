use Rattle.o2_calls.proofs.NotedMaps.{SoMany}
use Rattle.o2_calls.proofs.noting.members_from.Given as goal

abbrev pub invariant-loop-place : goal.invariant-loop-place
invariant-loop-place l = SoMany l.regions l.pid l.first l.index l.count l.place
