use Rattle.std.proofs.Common.{List, ap}
use Rattle.o2_image.specs.Images.{Target}
use Rattle.o2_image.specs.Marked.{unpacked_of}
use Rattle.o2_image.proofs.packed.Packed.shrink.Goals as goal

pub returns : goal.returns
returns c = ap (λ (ts : List Target). unpacked_of c.args.self.now.marks.items c.args.self.now.firsts.items ts) c.shrink_to_fit.ensures.items
