use Rattle.std.proofs.Common.{arith}
use Rattle.o2_segs.proofs.FreeingRuns.{one_taken, swept_lives}
use Rattle.o2_segs.proofs.Limits.{limits_dropped}
use Rattle.o2_segs.proofs.freeing.drop_member.Goals as goal

pub lose-requires-clause-few : goal.lose-requires-clause-few
lose-requires-clause-few c = (let some = c.law.ensures.counted c.args.pid c.args.index c.args.member c.requires.held in omega (arith, some))

pub returns-clause-limits : goal.returns-clause-limits
returns-clause-limits c =
    limits_dropped c.args.store.now c.lose.new.store c.args.regions.now c.lose.new.regions c.args.pid c.args.index c.args.member c.law-2.ensures.shelf c.law-3.ensures.shelf
    c.requires.held c.lose.ensures.sweeps (one_taken c.args.regions.now c.lose.new.regions c.args.pid c.args.index c.lose.ensures.takes)

pub returns-clause-lives : goal.returns-clause-lives
returns-clause-lives c = swept_lives c.args.store.now c.lose.new.store c.lose.new.regions c.args.member.id c.lose.ensures.sweeps
