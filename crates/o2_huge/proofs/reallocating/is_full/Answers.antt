use Rattle.o2_huge.proofs.Places.{upright}
use Rattle.o2_huge.proofs.reallocating.is_full.Goals as goal

pub returns-clause-vacant : goal.returns-clause-vacant
returns-clause-vacant c = λ e. c.are_vacant.ensures.vacant (upright c.are_vacant.result e)
