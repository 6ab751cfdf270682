use Rattle.o2_world.proofs.StepSound.{step_sound}
use Rattle.o2_world.proofs.laws.each_step_keeps_a_sound_world_sound.Goals as goal

pub returns : goal.returns
returns c = step_sound
