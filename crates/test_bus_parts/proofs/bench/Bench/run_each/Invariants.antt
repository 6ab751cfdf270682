use Rattle.o2_segbus.specs.Frames.{CanStep}
use Rattle.test_bus_parts.proofs.bench.Bench.run_each.Given as goal

abbrev pub invariant-loop-step : goal.invariant-loop-step
invariant-loop-step l = CanStep l.self.store l.self.regions 1 l.cpu
