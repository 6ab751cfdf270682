use Rattle.std.proofs.Common.{sym}
use Rattle.test_bus_parts.proofs.Keeping.{with_memory}
use Rattle.test_bus_parts.proofs.bench.Bench.write.Goals as goal

pub returns : goal.returns
returns c = with_memory c.args.self.now.store c.put.new.self _ c.args.self.now.regions _ c.requires (c.put.ensures c.in-Some._at (sym c.in-Some.ensures))
