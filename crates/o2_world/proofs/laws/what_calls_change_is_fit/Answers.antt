use Rattle.o2_world.proofs.AllFit.{all_moves_fit, all_moves_swept}
use Rattle.o2_world.proofs.StepMoves.{effect_moves, serviced_moves}
use Rattle.o2_world.proofs.laws.what_calls_change_is_fit.Goals as goal

pub returns-clause-shape : goal.returns-clause-shape
returns-clause-shape c = serviced_moves

pub returns-clause-steps : goal.returns-clause-steps
returns-clause-steps c = effect_moves

pub returns-clause-fit : goal.returns-clause-fit
returns-clause-fit c = λ s w d p e at lives now good sizes sound. all_moves_fit s w d p e at lives now good sizes sound

pub returns-clause-swept : goal.returns-clause-swept
returns-clause-swept c = λ s w d p e at lives now good sizes sound. all_moves_swept s w d p e at lives now good sizes sound
