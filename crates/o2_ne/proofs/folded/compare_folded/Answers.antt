use Rattle.std.proofs.Common.{◌∙◌}
use Rattle.o2_ne.proofs.FoldedLaws.{both_over}
use Rattle.o2_ne.proofs.folded.compare_folded.Goals as goal

pub returns : goal.returns
returns c = c.cmp-2.ensures ∙ both_over _ _ _ _ _ c.loop-i.auto.i-end c.loop-i-test.false c.min-common.ensures c.loop-i.invariant
