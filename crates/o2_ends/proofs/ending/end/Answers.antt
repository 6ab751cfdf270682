use Rattle.o2_ends.proofs.Behind.{marked_behind}
use Rattle.o2_ends.proofs.ending.end.Goals as goal

pub returns-clause-marked : goal.returns-clause-marked
returns-clause-marked c = λ p r dead marked. marked_behind c.args.ends.now c.end.new.self p c.args.pid r c.end.ensures dead marked
