use Rattle.o2_opening.proofs.Clearing.{cleared_some, cleared_none, unheld_still, free_still}
use Rattle.o2_opening.proofs.loading.clear.Goals as goal

pub returns-in-Some : goal.returns-in-Some
returns-in-Some c =
    cleared_some c.args.regions.now c.drop_one.new.self c.args.pid c.args.index c.law.ensures c.requires.process c.requires.index c.requires.once c.requires.own c.requires.shared _ c.drop_one.ensures.dropped c.in-Some.ensures.left

pub reserve_own-requires-clause-unheld : goal.reserve_own-requires-clause-unheld
reserve_own-requires-clause-unheld c =
    unheld_still c.args.regions.now c.drop_one.new.self c.args.pid c.args.index c.law.ensures c.requires.process c.requires.index c.requires.once c.requires.own c.requires.shared c.drop_one.new.self c.drop_one.ensures.dropped
    c.in-None.ensures.left

pub reserve_own-requires-clause-free : goal.reserve_own-requires-clause-free
reserve_own-requires-clause-free c =
    free_still c.args.regions.now c.drop_one.new.self c.args.pid c.args.index c.law.ensures c.requires.process c.requires.index c.requires.once c.requires.own c.requires.shared c.drop_one.new.self c.drop_one.ensures.dropped
    c.in-None.ensures.left

pub returns-in-None : goal.returns-in-None
returns-in-None c =
    cleared_none c.args.regions.now c.reserve_own.new.regions c.args.pid c.args.index c.law.ensures c.requires.process c.requires.index c.requires.once c.requires.own c.requires.shared c.drop_one.new.self c.drop_one.ensures.dropped
    c.in-None.ensures.left c.law-in-None.ensures c.requires.some c.reserve_own.ensures.own c.reserve_own.ensures.shared
