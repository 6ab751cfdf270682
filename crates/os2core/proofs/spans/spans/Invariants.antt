use Rattle.os2core.specs.Adjoining.{Adjoin}
use Rattle.os2core.proofs.spans.spans.Given as goal

abbrev pub invariant-loop-range : goal.invariant-loop-range
invariant-loop-range l = Adjoin 0 l.spans.items l.at
