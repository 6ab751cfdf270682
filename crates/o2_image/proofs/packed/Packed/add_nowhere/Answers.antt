use Rattle.o2_image.proofs.Packing.{nowhere}
use Rattle.o2_image.proofs.packed.Packed.add_nowhere.Goals as goal

pub returns : goal.returns
returns c = nowhere _ _ _ _ _ c.requires.packed c.requires.room _ c.in_ok-push.ensures.items c.requires.nowhere
