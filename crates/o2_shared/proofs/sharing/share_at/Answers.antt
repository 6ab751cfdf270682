use Rattle.std.proofs.Common.{sym}
use Rattle.o2_segs.proofs.Selecting.{named_live}
use Rattle.o2_shared.proofs.Holders.{shares_none}
use Rattle.o2_shared.proofs.Runs.{came_here, nobody_matches, one_matches, same_shared, shared_nothing, shared_one}
use Rattle.o2_shared.proofs.sharing.share_at.Goals as goal

pub share-requires-clause-high : goal.share-requires-clause-high
share-requires-clause-high c = (came_here c.args.regions.now c.args.from c.args.index c.in-Some.held (sym c.in-Some.ensures.held) c.requires.called).0

pub share-requires-clause-called : goal.share-requires-clause-called
share-requires-clause-called c = (came_here c.args.regions.now c.args.from c.args.index c.in-Some.held (sym c.in-Some.ensures.held) c.requires.called).1

pub share-requires-clause-held : goal.share-requires-clause-held
share-requires-clause-held c = sym c.in-Some.ensures.held

pub share-requires-clause-same : goal.share-requires-clause-same
share-requires-clause-same c = same_shared c.args.regions.now c.args.from c.args.to c.args.index c.in-Some.held c.requires.one (sym c.in-Some.ensures.held) c.requires.called

pub share-requires-clause-live : goal.share-requires-clause-live
share-requires-clause-live c = named_live c.args.store.now c.args.regions.now c.requires.named c.args.from c.args.index c.in-Some.held (sym c.in-Some.ensures.held)

pub returns-in-Some-clause-shares : goal.returns-in-Some-clause-shares
returns-in-Some-clause-shares c = shared_one c.args.regions.now c.share.new.regions c.args.from c.args.to c.args.index _ c.in-Some.held (sym c.in-Some.ensures.held) c.share.ensures.grants

pub returns-in-Some-clause-matches : goal.returns-in-Some-clause-matches
returns-in-Some-clause-matches c = one_matches c.args.store.now c.args.regions.now c.share.new.regions c.args.from c.args.to c.args.index c.in-Some.held c.share.ensures.matches (sym c.in-Some.ensures.held)

pub returns-in_default-clause-shares : goal.returns-in_default-clause-shares
returns-in_default-clause-shares c = shared_nothing c.args.regions.now c.args.from c.args.to c.args.index (sym c.in_default.ensures.held)

pub returns-in_default-clause-matches : goal.returns-in_default-clause-matches
returns-in_default-clause-matches c = nobody_matches c.args.store.now c.args.regions.now c.args.from c.args.to c.args.index (sym c.in_default.ensures.held)

pub returns-in-Some-clause-more : goal.returns-in-Some-clause-more
returns-in-Some-clause-more c = record { still = c.share.ensures.still; limits = c.share.ensures.limits; places = c.share.ensures.places; processes = c.share.ensures.processes; goes_on = c.share.ensures.goes_on }

pub returns-in_default-clause-more : goal.returns-in_default-clause-more
returns-in_default-clause-more c = shares_none c.args.store.now c.args.regions.now c.requires.order
