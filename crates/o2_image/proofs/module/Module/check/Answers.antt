use Rattle.std.proofs.Common.{◌≤◌, length, arith}
use Rattle.o2_image.proofs.module.Module.check.Goals as goal

pub invariant_of-result : goal.invariant_of-result
invariant_of-result c =
    let few : length c.in_ok-segments.segments ≤ 254 = omega (arith, c.in_ok-segments.ensures.many, c.in_ok-head.ensures.few) in
    record {
      short = rw c.in_ok-names.ensures.file c.requires;
      inside = rw c.in_ok-names.ensures.file (rw c.as_slice-bytes.ensures at c.in_ok-head.ensures.inside);
      references = rw (c.as_slice-kept.ensures, c.file-held.ensures) at c.in_ok-references.ensures.lie;
      few = few;
      segments = rw (c.as_slice-kept.ensures, c.file-held.ensures, c.as_slice.ensures.value) at c.in_ok-check_segments.ensures.whole;
      auto = c.in_ok-auto_data.ensures.fits;
    }
