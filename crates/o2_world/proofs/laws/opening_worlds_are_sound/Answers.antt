use Rattle.o2_world.proofs.Openings.{opening_sound}
use Rattle.o2_world.proofs.laws.opening_worlds_are_sound.Goals as goal

pub returns : goal.returns
returns c = opening_sound
