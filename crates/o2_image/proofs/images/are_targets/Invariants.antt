use Rattle.std.proofs.Common.{◌≡◌, drop, map}
use Rattle.o2_ne_segs.specs.Records.{relocs_in}
use Rattle.o2_image.specs.ImageList.{same_shape}
use Rattle.o2_image.proofs.images.are_targets.Given as goal

abbrev pub invariant-loop-i : goal.invariant-loop-i
invariant-loop-i l =
    same_shape (drop l.i l.targets) (map (relocs_in l.file) (drop l.i l.segments))
    ≡ same_shape l.targets (map (relocs_in l.file) l.segments)
