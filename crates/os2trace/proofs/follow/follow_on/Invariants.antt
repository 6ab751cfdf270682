use Rattle.os2trace.specs.Going.{IsGoing}
use Rattle.os2trace.proofs.follow.follow_on.Given as goal

abbrev pub invariant-loop-turn : goal.invariant-loop-turn
invariant-loop-turn l = record { going : IsGoing l.machine l.outside.swap }
