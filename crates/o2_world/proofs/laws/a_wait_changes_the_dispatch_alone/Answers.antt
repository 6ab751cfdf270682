use Rattle.o2_world.proofs.Flags.{live_is}
use Rattle.o2_world.proofs.Waits.{effect_waits, step_waits, wait_leaves}
use Rattle.o2_world.proofs.laws.a_wait_changes_the_dispatch_alone.Goals as goal

pub returns-clause-effect : goal.returns-clause-effect
returns-clause-effect c = effect_waits

pub returns-clause-changed : goal.returns-clause-changed
returns-clause-changed c = λ s w d p at live waits. wait_leaves s w d p at (live_is p.state live) waits

pub returns-clause-step : goal.returns-clause-step
returns-clause-step c = step_waits
