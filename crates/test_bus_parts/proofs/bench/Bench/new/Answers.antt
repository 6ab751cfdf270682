use Rattle.test_bus_parts.proofs.Keeping.{begun}
use Rattle.test_bus_parts.proofs.bench.Bench.new.Goals as goal

pub returns : goal.returns
returns c =
    begun c.in_ok-store.store c.in_ok-regions.regions c.args.blocks _ c.in_ok-store.ensures.empty c.in_ok-store.ensures.map c.in_ok-swap.ensures.blocks
    c.in_ok-regions.ensures.nothing c.in_ok-regions.ensures.processes c.in_ok-regions.ensures.unheld
