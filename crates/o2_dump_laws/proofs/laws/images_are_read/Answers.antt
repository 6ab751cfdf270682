use Rattle.o2_dump_laws.proofs.ImageRead.{image_is}
use Rattle.o2_dump_laws.proofs.laws.images_are_read.Goals as goal

pub returns : goal.returns
returns c = image_is
