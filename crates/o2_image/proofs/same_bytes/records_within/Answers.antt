use Rattle.std.proofs.Common.{arith}
use Rattle.o2_image.proofs.Overlaps.{has_part}
use Rattle.o2_image.proofs.same_bytes.records_within.Goals as goal

pub returns : goal.returns
returns c =
    has_part c.args.file.now c.args.a.now c.args.b.now c.in_ok-skip.skip c.in_ok-skip.ensures
    (omega (arith, c.if-skip-more.false, c.from-many.ensures, c.reloc_count.ensures, c.from-more.ensures, c.reloc_count-2.ensures))
