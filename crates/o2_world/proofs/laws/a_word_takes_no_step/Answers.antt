use Rattle.std.proofs.Common.{arith, refl}
use Rattle.o2_world.proofs.Words.{none_over, one_word_less, ready_behind, step_behind}
use Rattle.o2_world.proofs.laws.a_word_takes_no_step.Goals as goal

pub returns-clause-step : goal.returns-clause-step
returns-clause-step c = λ s w h. step_behind s 1 w (omega (arith, h))

pub returns-clause-ready : goal.returns-clause-ready
returns-clause-ready c = λ w h. ready_behind 1 w (omega (arith, h))

pub returns-clause-fewer : goal.returns-clause-fewer
returns-clause-fewer c = one_word_less

pub returns-clause-keeps : goal.returns-clause-keeps
returns-clause-keeps c = λ w. refl

pub returns-clause-none : goal.returns-clause-none
returns-clause-none c = none_over
