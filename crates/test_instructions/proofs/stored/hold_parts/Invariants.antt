use Rattle.test_bus_parts.specs.Trials.{IsReady}
use Rattle.test_instructions.proofs.stored.hold_parts.Given as goal

abbrev pub invariant-loop-access : goal.invariant-loop-access
invariant-loop-access l = IsReady l.bench
