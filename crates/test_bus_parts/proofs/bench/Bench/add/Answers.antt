use Rattle.std.proofs.Common.{refl}
use Rattle.test_bus_parts.proofs.Keeping.{added}
use Rattle.test_bus_parts.proofs.bench.Bench.add.Goals as goal

pub returns : goal.returns
returns c =
    added _ c.args.self.now.store c.make.new.store c.args.self.now.regions _ _ c.make.result c.law.ensures.shelf c.requires.ready refl refl refl
    c.make.ensures.none c.make.ensures.added c.make.ensures.goes_on.order
