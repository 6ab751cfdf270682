use Rattle.o2_world.proofs.Discarding.{all_twice, get_discarded}
use Rattle.o2_world.proofs.laws.a_word_discards_what_may_go.Goals as goal

pub returns-clause-segments : goal.returns-clause-segments
returns-clause-segments c = λ w n. get_discarded w.processes w.names n

pub returns-clause-twice : goal.returns-clause-twice
returns-clause-twice c = λ w. all_twice w.processes w.names
