use Rattle.test_bus_parts.specs.Trials.{IsReady}
use Rattle.test_core_images.proofs.images.fill.Given as goal

abbrev pub invariant-loop-byte : goal.invariant-loop-byte
invariant-loop-byte l = IsReady l.bench
