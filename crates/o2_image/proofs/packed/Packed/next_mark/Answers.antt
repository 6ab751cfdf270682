use Rattle.std.proofs.Common.{◌≡◌, arith, length, rules}
use Rattle.o2_image.proofs.Packing.{few, low}
use Rattle.o2_image.proofs.packed.Packed.next_mark.Goals as goal

pub overflow_sub-result : goal.overflow_sub-result
overflow_sub-result c =
    let h = low _ _ _ _ _ c.requires.packed c.requires.room in
    let first = rw c.as_slice.ensures.value at c.last_of-first.ensures in
    let lead : c.len.result ≡ length c.args.self.now.some.items = search rules in
    omega (arith, h, first, lead)

pub overflow_cast-result : goal.overflow_cast-result
overflow_cast-result c =
    let h = few _ _ _ _ _ c.requires.packed c.requires.room in
    let first = rw c.as_slice.ensures.value at c.last_of-first.ensures in
    let lead : c.len.result ≡ length c.args.self.now.some.items = search rules in
    omega (arith, h, first, lead)
