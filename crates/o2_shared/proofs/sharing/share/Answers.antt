use Rattle.o2_shared.proofs.Holders.{share_limits, share_places, still_shared}
use Rattle.o2_shared.proofs.sharing.share.Goals as goal

pub returns-in-Some-clause-limits : goal.returns-in-Some-clause-limits
returns-in-Some-clause-limits c =
    share_limits c.args.store.now c.args.regions.now c.hold_more.new.regions c.args.from c.args.to c.args.index c.in-Some.descriptor.access c.args.held c.requires.held c.requires.called c.hold_more.ensures.grants

pub returns-in-Some-clause-places : goal.returns-in-Some-clause-places
returns-in-Some-clause-places c = λ names.
    share_places c.args.store.now c.args.regions.now c.hold_more.new.regions c.args.from c.args.to c.args.index c.in-Some.descriptor.access c.args.held c.requires.held c.requires.called c.hold_more.ensures.grants names

pub returns-in-Some-clause-still : goal.returns-in-Some-clause-still
returns-in-Some-clause-still c = still_shared c.args.regions.now c.hold_more.new.regions c.args.to c.args.index c.in-Some.descriptor.access c.args.held c.hold_more.ensures.grants
