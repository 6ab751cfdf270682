use Rattle.o2_ne.proofs.names.nonresident.Goals as goal

pub returns-then-head-eq0-clause-index : goal.returns-then-head-eq0-clause-index
returns-then-head-eq0-clause-index c = c.empty.ensures.index c.args.file.now
