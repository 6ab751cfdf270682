use Rattle.o2_ne_segs.specs.Records.{relocs_in}
use Rattle.o2_image.specs.Alike.{row_of}
use Rattle.o2_image.specs.Images.{all_patches}
use Rattle.o2_image.specs.Records.{bytes_of}
use Rattle.o2_image.proofs.FillSteps.{filled}
use Rattle.o2_image.proofs.fill.fill_segment.Goals as goal

pub returns : goal.returns
returns c =
    filled _ _ (all_patches (bytes_of c.args.file.now c.args.segment.now) (relocs_in c.args.file.now c.args.segment.now) (row_of c.args.targets.now)) _ _ _
    c.bytes_of.ensures.value c.copy_front.auto.into c.fill_relocs.auto.into c.copy_front.ensures c.fill_relocs.ensures
