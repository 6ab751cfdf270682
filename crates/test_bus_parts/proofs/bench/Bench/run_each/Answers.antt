use Rattle.test_bus_parts.proofs.Seating.{can_step, named}
use Rattle.test_bus_parts.proofs.bench.Bench.run_each.Goals as goal

pub are_seated-requires-clause-named : goal.are_seated-requires-clause-named
are_seated-requires-clause-named c = named c.args.self.now.store c.args.self.now.regions _ c.requires

pub loop-step-init : goal.loop-step-init
loop-step-init c = can_step c.args.self.now.store c.args.self.now.regions _ c.args.cpu.now c.requires (c.are_seated.ensures c.if-not-are_seated.false)

pub attempt-requires : goal.attempt-requires
attempt-requires c = record { ready = c.loop-step.invariant }
