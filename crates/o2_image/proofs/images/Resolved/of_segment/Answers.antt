use Rattle.std.proofs.Common.{sym, ◌∙◌}
use Rattle.o2_image.proofs.Getting.{at_number}
use Rattle.o2_image.proofs.images.Resolved.of_segment.Goals as goal

pub returns : goal.returns
returns c = (rw c.from.ensures at c.at.ensures) ∙ sym (at_number c.args.self.now c.args.seg c.if-seg-eq0.false)
