use Rattle.o2_service.proofs.Unheld.{unheld_after, unheld_settled, unheld_well}
use Rattle.test_service.proofs.calls.bring.Goals as goal

pub serve-requires-clause-held : goal.serve-requires-clause-held
serve-requires-clause-held g c = unheld_well c.args.store.now c.args.regions.now c.requires.unheld

pub serve-requires-clause-settled : goal.serve-requires-clause-settled
serve-requires-clause-settled g c = unheld_settled c.args.store.now c.args.regions.now c.requires.unheld

pub returns-clause-unheld : goal.returns-clause-unheld
returns-clause-unheld g c = unheld_after c.serve.new.store c.args.regions.now c.serve.new.regions c.serve.ensures.maps c.serve.ensures.settled c.requires.unheld
