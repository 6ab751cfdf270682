use Rattle.o2_opening.proofs.Loads.{cleared_held, cleared_open, cleared_process, loads, none_few, none_other}
use Rattle.o2_opening.proofs.loading.load.Goals as goal

pub grant-requires-clause-process : goal.grant-requires-clause-process
grant-requires-clause-process c = cleared_process c.args.regions.now c.clear.new.regions c.args.pid c.args.index c.clear.ensures c.requires.process

pub grant-requires-clause-reserved : goal.grant-requires-clause-reserved
grant-requires-clause-reserved c = cleared_open c.args.regions.now c.clear.new.regions c.args.pid c.args.index c.clear.ensures c.requires.process

pub grant-requires-clause-same : goal.grant-requires-clause-same
grant-requires-clause-same c = none_other _ c.args.id (cleared_held c.args.regions.now c.clear.new.regions c.args.pid c.args.index c.clear.ensures)

pub grant-requires-clause-few : goal.grant-requires-clause-few
grant-requires-clause-few c = none_few _ (cleared_held c.args.regions.now c.clear.new.regions c.args.pid c.args.index c.clear.ensures)

pub returns : goal.returns
returns c =
    loads c.args.regions.now c.clear.new.regions c.grant.new.self c.describe.new.self c.args.pid c.args.index c.args.rights c.args.limit c.args.id c.law.ensures
    (cleared_process c.args.regions.now c.clear.new.regions c.args.pid c.args.index c.clear.ensures c.requires.process) c.requires.index c.requires.within c.clear.ensures c.grant.ensures.granted c.describe.ensures
