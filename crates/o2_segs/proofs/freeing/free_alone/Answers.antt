use Rattle.o2_segs.proofs.AloneFreed.{alone_cleared, alone_matches}
use Rattle.o2_segs.proofs.Limits.{limits_dropped}
use Rattle.o2_segs.proofs.freeing.free_alone.Goals as goal

pub returns-clause-registers : goal.returns-clause-registers
returns-clause-registers c =
    alone_cleared c.args.regions.now c.args.pid c.args.index c.let_go-left.result c.args.held c.args.cpu.now c.clear.new.cpu c.requires.alone c.requires.held
    (c.law.ensures.counted c.args.pid c.args.index c.args.held c.requires.held) c.let_go-left.ensures.left c.clear.ensures

pub returns-clause-matches : goal.returns-clause-matches
returns-clause-matches c =
    alone_matches c.args.store.now c.let_go-left.new.store c.args.regions.now c.let_go-left.new.regions c.args.pid c.args.index c.args.held c.requires.alone c.requires.held c.let_go-left.ensures.matches

pub returns-clause-limits : goal.returns-clause-limits
returns-clause-limits c =
    limits_dropped c.args.store.now c.let_go-left.new.store c.args.regions.now c.let_go-left.new.regions c.args.pid c.args.index c.args.held c.law-2.ensures.shelf c.law-3.ensures.shelf
    c.requires.held c.let_go-left.ensures.sweeps c.let_go-left.ensures.takes
