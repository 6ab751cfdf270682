use Rattle.test_bus_parts.specs.Trials.{IsReady}
use Rattle.measure.proofs.serving.serve_round.Given as goal

abbrev pub invariant-loop-round : goal.invariant-loop-round
invariant-loop-round l = IsReady l.bench
