use Rattle.std.proofs.Common.{arith, refl}
use Rattle.o2_opening.specs.declared.stored.Stored.{Stored}
use Rattle.o2_opening.proofs.Adding.{hold_here, hold_others, hold_whole, id_known}
use Rattle.o2_opening.proofs.Holding.{held_once, may_low, may_process, may_shared, may_some}
use Rattle.o2_opening.proofs.stored.StoredSegments.hold.Goals as goal

pub load-requires-clause-process : goal.load-requires-clause-process
load-requires-clause-process c = may_process c.args.self.now.regions c.args.pid c.args.grip.now.index c.requires.takes

pub load-requires-clause-some : goal.load-requires-clause-some
load-requires-clause-some c = may_some c.args.self.now.regions c.args.pid c.args.grip.now.index c.requires.takes

pub load-requires-clause-index : goal.load-requires-clause-index
load-requires-clause-index c = may_low c.args.self.now.regions c.args.pid c.args.grip.now.index c.requires.takes

pub load-requires-clause-once : goal.load-requires-clause-once
load-requires-clause-once c = held_once c.args.self.now.store c.args.self.now.regions c.args.self.now.ids.items c.args.pid c.args.grip.now.index c.requires.whole.mapped

pub load-requires-clause-own : goal.load-requires-clause-own
load-requires-clause-own c = λ low.
    c.requires.whole.mapped.own c.args.pid c.args.grip.now.index (may_process c.args.self.now.regions c.args.pid c.args.grip.now.index c.requires.takes)
    (may_some c.args.self.now.regions c.args.pid c.args.grip.now.index c.requires.takes) low

pub load-requires-clause-shared : goal.load-requires-clause-shared
load-requires-clause-shared c = may_shared c.args.self.now.regions c.args.pid c.args.grip.now.index c.requires.takes

pub load-requires-clause-within : goal.load-requires-clause-within
load-requires-clause-within c =
    let p = may_process c.args.self.now.regions c.args.pid c.args.grip.now.index c.requires.takes in
    let long = c.requires.whole.mapped.tables c.args.pid p in
    let low = may_low c.args.self.now.regions c.args.pid c.args.grip.now.index c.requires.takes in
    omega (arith, long, low)

pub limit_of-limit-requires : goal.limit_of-limit-requires
limit_of-limit-requires c = c.requires.whole.stored.there c.args.name c.index-id.result.now (id_known c.args.self.now.ids.items c.args.name c.index-id.result.now c.requires.name c.index-id.ensures)

pub returns-clause-whole : goal.returns-clause-whole
returns-clause-whole c =
    let id = c.index-id.result.now in
    let at = id_known c.args.self.now.ids.items c.args.name id c.requires.name c.index-id.ensures in
    let w : Stored = record { store = c.args.self.now.store; regions = c.load.new.regions; ids = c.args.self.now.ids } in
    hold_whole c.args.self.now w c.args.pid c.args.grip.now.index c.args.grip.now.rights c.limit_of-limit.result c.args.name id c.requires.whole refl refl c.load.ensures c.requires.takes at c.limit_of-limit.ensures

pub returns-clause-holds : goal.returns-clause-holds
returns-clause-holds c =
    let id = c.index-id.result.now in
    let at = id_known c.args.self.now.ids.items c.args.name id c.requires.name c.index-id.ensures in
    let w : Stored = record { store = c.args.self.now.store; regions = c.load.new.regions; ids = c.args.self.now.ids } in
    hold_here c.args.self.now w c.args.pid c.args.grip.now.index c.args.grip.now.rights c.limit_of-limit.result c.args.name id c.requires.whole refl refl c.load.ensures c.requires.takes at c.limit_of-limit.ensures c.requires.rights

pub returns-clause-others : goal.returns-clause-others
returns-clause-others c =
    let id = c.index-id.result.now in
    let at = id_known c.args.self.now.ids.items c.args.name id c.requires.name c.index-id.ensures in
    let w : Stored = record { store = c.args.self.now.store; regions = c.load.new.regions; ids = c.args.self.now.ids } in
    hold_others c.args.self.now w c.args.pid c.args.grip.now.index c.args.grip.now.rights c.limit_of-limit.result c.args.name id c.requires.whole refl refl c.load.ensures c.requires.takes at c.limit_of-limit.ensures c.requires.rights

pub returns-clause-names : goal.returns-clause-names
returns-clause-names c = λ images n o named. named
