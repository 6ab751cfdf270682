use Rattle.o2_world.proofs.StepReach.{step_told}
use Rattle.o2_world.proofs.laws.what_is_held_is_told.Goals as goal

pub returns : goal.returns
returns c = λ w d p e at can tells. step_told w d p e at can tells
