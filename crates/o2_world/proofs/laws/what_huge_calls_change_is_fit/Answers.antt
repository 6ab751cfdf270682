use Rattle.o2_world.proofs.HugeMoves.{huge_moves, reallocated_moves}
use Rattle.o2_world.proofs.RunsFit.{run_moves_fit, run_moves_swept}
use Rattle.o2_world.proofs.RunsTold.{run_can_tell}
use Rattle.o2_world.proofs.laws.what_huge_calls_change_is_fit.Goals as goal

pub returns-clause-makes : goal.returns-clause-makes
returns-clause-makes c = λ b cpu segs part most flags. huge_moves b cpu segs part flags most

pub returns-clause-sizes : goal.returns-clause-sizes
returns-clause-sizes c = reallocated_moves

pub returns-clause-fit : goal.returns-clause-fit
returns-clause-fit c = λ s w d p e at lives now good sizes sound. run_moves_fit s w d p e at lives now good sizes sound

pub returns-clause-told : goal.returns-clause-told
returns-clause-told c = λ s w d p e at lives now good sizes sound. run_can_tell s w d p e at lives now good sizes sound

pub returns-clause-swept : goal.returns-clause-swept
returns-clause-swept c = λ s w d p e at lives now good sizes sound. run_moves_swept s w d p e at lives now good sizes sound
