use Rattle.test_bus_parts.proofs.Keeping.{tried}
use Rattle.test_bus_parts.proofs.Seating.{can_step, named}
use Rattle.test_bus_parts.proofs.bench.Bench.try_step.Goals as goal

pub are_seated-requires-clause-named : goal.are_seated-requires-clause-named
are_seated-requires-clause-named c = named c.args.self.now.store c.args.self.now.regions _ c.requires

pub attempt-requires : goal.attempt-requires
attempt-requires c = record { ready = can_step c.args.self.now.store c.args.self.now.regions _ c.args.cpu.now c.requires (c.are_seated.ensures c.if-not-are_seated.false) }

pub returns : goal.returns
returns c =
    tried c.args.self.now.store c.attempt.new.store c.args.self.now.regions c.attempt.new.regions _ c.requires c.attempt.ensures.store c.attempt.ensures.maps
    c.attempt.ensures.next.settled
