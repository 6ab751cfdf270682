use Rattle.test_bus_parts.proofs.Keeping.{holds}
use Rattle.test_bus_parts.proofs.bench.Bench.hold.Goals as goal

pub returns : goal.returns
returns c =
    holds c.args.self.now.store c.args.self.now.regions c.hold_new.new.regions _ c.requires c.hold_new.ensures.grants.processes c.hold_new.ensures.order
