use Rattle.o2_dump_worlds.proofs.Standing.{image_stands}
use Rattle.o2_dump_worlds.proofs.laws.images_stand_for_worlds.Goals as goal

pub returns : goal.returns
returns c = image_stands
