use Rattle.std.proofs.Common.{◌∙◌}
use Rattle.o2_conf.specs.Dispatch.{counted}
use Rattle.o2_world.specs.Run.{next_dispatch, ready, step}
use Rattle.o2_world.proofs.Waits.{ready_at, same_before, same_there, same_turn, step_waits, waits_through}
use Rattle.o2_world.proofs.laws.a_wait_repeats.Goals as goal

pub returns-clause-turn : goal.returns-clause-turn
returns-clause-turn c = λ s w p runs at waits more. same_turn s w (step s w) runs (step_waits s w p runs at waits) more

pub returns-clause-process : goal.returns-clause-process
returns-clause-process c = λ s w p runs at waits. same_there (ready w) (step s w) (counted (next_dispatch s w)) (next_dispatch s w).current (step_waits s w p runs at waits) ∙ ready_at w (next_dispatch s w).current p at

pub returns-clause-effect : goal.returns-clause-effect
returns-clause-effect c = λ s w p runs at waits. same_before s (ready w) (step s w) (counted (next_dispatch s w)) (next_dispatch s w).current p (step_waits s w p runs at waits)

pub returns-clause-rest : goal.returns-clause-rest
returns-clause-rest c = waits_through
