use Rattle.std.proofs.Common.{Some, ap, sym, ◌∙◌}
use Rattle.os2trace.proofs.Images.{pictured}
use Rattle.os2trace.proofs.reading.fill.Goals as goal

pub from_image-requires : goal.from_image-requires
from_image-requires g c =
    let at = c.in-Some-Image in
    pictured at.module at.seg c.args.space.now.store c.args.space.now.images c.args.id c.requires (sym c.place.ensures ∙ at.is ∙ ap Some at.field-0-is)
