use Rattle.std.proofs.Common.{Some, ap, arith, sym, ◌∙◌}
use Rattle.std.proofs.lemmas.Option.{slice_get_past}
use Rattle.o2_image.specs.Alike.{part_of}
use Rattle.o2_image.specs.Images.{Target}
use Rattle.o2_image.specs.Marked.{unpacked}
use Rattle.o2_image.proofs.PartLists.{part_item}
use Rattle.o2_image.proofs.images.target_in.Goals as goal

pub returns-then-k-part_len : goal.returns-then-k-part_len
returns-then-k-part_len c = sym (slice_get_past (part_of (unpacked c.args.targets.now) c.args.part.now) c.args.k (omega (arith, c.part_len.ensures.value)))

pub returns : goal.returns
returns c =
    ap (λ (t : Target). Some t) c.at.ensures
    ∙ sym (part_item (unpacked c.args.targets.now) c.args.part.now c.args.k (0, 0) (omega (arith, c.part_len.ensures.value)))
