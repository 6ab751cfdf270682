use Rattle.o2_world.proofs.Discarding.{word_sound}
use Rattle.o2_world.proofs.laws.each_word_keeps_a_sound_world_sound.Goals as goal

pub returns : goal.returns
returns c = word_sound
