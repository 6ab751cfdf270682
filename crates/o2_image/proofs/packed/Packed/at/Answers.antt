use Rattle.std.proofs.Common.{sym, ◌∙◌}
use Rattle.o2_image.proofs.Packing.{unpacked_at}
use Rattle.o2_image.proofs.packed.Packed.at.Goals as goal

pub returns : goal.returns
returns c =
    (rw (c.number_at-first.ensures, c.mark_at-mark.ensures, c.as_slice.ensures.value, c.as_slice-2.ensures.value, c.as_slice-3.ensures.value) at c.target_at.ensures)
    ∙ sym (unpacked_at c.args.self.now.marks.items c.args.self.now.firsts.items c.args.self.now.some.items c.args.i)
