use Rattle.test_machine.specs.Going.{IsGoing}
use Rattle.test_machine.proofs.turns.other_answer.Given as goal

abbrev pub invariant-loop-turn : goal.invariant-loop-turn
invariant-loop-turn g l = IsGoing l.machine (g.S.SwapDevice.blocks l.swap)
