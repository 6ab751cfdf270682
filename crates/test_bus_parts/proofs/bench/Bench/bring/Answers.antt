use Rattle.test_bus_parts.proofs.Keeping.{no_pictures, none_clean, served}
use Rattle.test_bus_parts.proofs.bench.Bench.bring.Goals as goal

pub serve-served-requires-clause-pictures : goal.serve-served-requires-clause-pictures
serve-served-requires-clause-pictures c = no_pictures c.args.self.now.store c.args.self.now.regions _ c.args.self.now.images c.requires

pub returns : goal.returns
returns c =
    served c.args.self.now.store c.serve-served.new.store c.args.self.now.regions c.serve-served.new.regions _ _ c.requires c.serve-served.ensures.keeps.tables
    c.serve-served.ensures.maps c.serve-served.ensures.settled c.serve-served.ensures.map c.serve-served.ensures.device.blocks

pub serve-served-requires-clause-backed : goal.serve-served-requires-clause-backed
serve-served-requires-clause-backed c = record { clean = none_clean c.args.self.now.store c.args.self.now.regions _ _ c.requires; device = c.requires.device }
