use Rattle.o2_conf.proofs.Words.{dispatched_so, script_shorter, words_fewer}
use Rattle.o2_conf.proofs.laws.a_word_leaves_whose_step_is_next.Goals as goal

pub returns-clause-same : goal.returns-clause-same
returns-clause-same c = dispatched_so

pub returns-clause-fewer : goal.returns-clause-fewer
returns-clause-fewer c = words_fewer

pub returns-clause-shorter : goal.returns-clause-shorter
returns-clause-shorter c = script_shorter
