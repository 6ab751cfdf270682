use Rattle.std.proofs.Common.{arith, sym, ◌∙◌}
use Rattle.o2_image.specs.Marked.{unpacked}
use Rattle.o2_image.proofs.PartLists.{part_cut, part_whole}
use Rattle.o2_image.proofs.images.part_len.Goals as goal

pub returns-then-part-rest-clause-value : goal.returns-then-part-rest-clause-value
returns-then-part-rest-clause-value c =
    sym (part_whole (unpacked c.args.targets.now) c.args.part.now (omega (arith, c.len.ensures, c.saturating_sub-rest.ensures)))

pub returns-clause-value : goal.returns-clause-value
returns-clause-value c =
    c.saturating_sub-rest.ensures ∙ sym (rw c.len.ensures (part_cut (unpacked c.args.targets.now) c.args.part.now (omega (arith, c.len.ensures, c.saturating_sub-rest.ensures))))
