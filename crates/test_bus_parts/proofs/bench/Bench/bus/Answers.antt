use Rattle.test_bus_parts.proofs.Seating.{can_step, named}
use Rattle.test_bus_parts.proofs.bench.Bench.bus.Goals as goal

pub are_seated-requires-clause-named : goal.are_seated-requires-clause-named
are_seated-requires-clause-named c = named c.args.self.now.store c.args.self.now.regions _ c.requires

pub new-requires-clause-named : goal.new-requires-clause-named
new-requires-clause-named c = named c.args.self.now.store c.args.self.now.regions _ c.requires

pub new-requires-clause-bound : goal.new-requires-clause-bound
new-requires-clause-bound c = (can_step c.args.self.now.store c.args.self.now.regions _ c.args.cpu.now c.requires (c.are_seated.ensures c.if-not-are_seated.false)).bound
