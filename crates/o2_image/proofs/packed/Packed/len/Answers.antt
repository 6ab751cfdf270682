use Rattle.std.proofs.Common.{◌≡◌, length, rules, sym, ◌∙◌}
use Rattle.o2_image.proofs.Packing.{length_unpacked}
use Rattle.o2_image.proofs.packed.Packed.len.Goals as goal

pub returns : goal.returns
returns c =
    let many : c.len.result ≡ length c.args.self.now.marks.items = search rules in
    many ∙ sym (length_unpacked c.args.self.now.marks.items c.args.self.now.firsts.items c.args.self.now.some.items)
