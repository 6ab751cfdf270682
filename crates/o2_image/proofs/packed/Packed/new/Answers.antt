use Rattle.o2_image.proofs.Packing.{empty}
use Rattle.o2_image.proofs.packed.Packed.new.Goals as goal

pub returns : goal.returns
returns c = empty _ _ _ _ c.in_ok-marks.ensures.items c.new-firsts.ensures.items c.new-some.ensures.items
