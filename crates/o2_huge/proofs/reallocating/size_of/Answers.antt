use Rattle.o2_huge.proofs.Sizing.{size_known, size_read}
use Rattle.o2_huge.proofs.reallocating.size_of.Goals as goal

pub returns-in-Some : goal.returns-in-Some
returns-in-Some c = size_read c.args.store.now c.args.id c.in-Some.size c.requires c.in-Some.ensures

pub returns-in-None : goal.returns-in-None
returns-in-None c = absurd (size_known c.args.store.now c.args.id c.requires c.in-None.ensures)
