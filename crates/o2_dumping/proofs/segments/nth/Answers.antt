use Rattle.o2_dumping.proofs.Segmenting.{nth_lives}
use Rattle.o2_dumping.proofs.segments.nth.Goals as goal

pub returns-clause-live : goal.returns-clause-live
returns-clause-live c = nth_lives c.args.store.now c.args.k c.in-Some.id c.requires c.in-Some.ensures
