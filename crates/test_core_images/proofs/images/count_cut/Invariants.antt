use Rattle.test_bus_parts.specs.Trials.{IsReady}
use Rattle.test_core_images.proofs.images.count_cut.Given as goal

abbrev pub invariant-loop-call : goal.invariant-loop-call
invariant-loop-call l = IsReady l.bench
