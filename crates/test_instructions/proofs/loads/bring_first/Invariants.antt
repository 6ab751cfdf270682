use Rattle.test_bus_parts.specs.Trials.{IsReady}
use Rattle.test_instructions.proofs.loads.bring_first.Given as goal

abbrev pub invariant-loop-index : goal.invariant-loop-index
invariant-loop-index l = IsReady l.bench
