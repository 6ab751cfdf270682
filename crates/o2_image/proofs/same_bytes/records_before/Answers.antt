use Rattle.std.proofs.Common.{arith}
use Rattle.o2_image.proofs.Overlaps.{precede}
use Rattle.o2_image.proofs.same_bytes.records_before.Goals as goal

pub returns : goal.returns
returns c =
    precede c.args.file.now c.args.a.now c.args.b.now c.in_ok-skip.skip c.in_ok-skip.ensures
    (omega (arith, c.if-skip-many.false, c.from-many.ensures, c.reloc_count.ensures))
    (omega (arith, c.if-skip-more.false, c.from-many.ensures, c.reloc_count.ensures, c.from-more.ensures, c.reloc_count-2.ensures))
