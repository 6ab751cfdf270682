use Rattle.std.proofs.Common.{arith, ◌∙◌}
use Rattle.o2_image.proofs.TotalSteps.{goes_on}
use Rattle.o2_image.proofs.records.total_relocs.Goals as goal

pub loop-segment-preserved : goal.loop-segment-preserved
loop-segment-preserved c = record {
  so_far = goes_on _ _ _ _ _ _ _ c.loop-segment-test.true (c.from-total.ensures ∙ c.reloc_count.ensures) c.loop-segment.invariant.so_far;
  small = omega arith;
}
