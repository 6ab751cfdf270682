use Rattle.std.proofs.Common.{sym, ◌∙◌}
use Rattle.o2_image.proofs.Uniform.{alike_has, alike_passes, passes_given}
use Rattle.o2_image.proofs.records.check_once.Goals as goal

pub returns-then-is_any_alike-clause-exact : goal.returns-then-is_any_alike-clause-exact
returns-then-is_any_alike-clause-exact c =
    alike_passes _ _ _ c.args.earlier.now c.args.segment.now c.requires.passed (sym c.is_any_alike.ensures ∙ c.if-is_any_alike.true) c.args.seg

pub returns-then-is_any_alike-clause-passes : goal.returns-then-is_any_alike-clause-passes
returns-then-is_any_alike-clause-passes c =
    alike_passes _ _ _ c.args.earlier.now c.args.segment.now c.requires.passed (sym c.is_any_alike.ensures ∙ c.if-is_any_alike.true)

pub returns-then-is_any_alike-clause-whole : goal.returns-then-is_any_alike-clause-whole
returns-then-is_any_alike-clause-whole c = alike_has _ c.args.earlier.now c.args.segment.now c.requires.has (sym c.is_any_alike.ensures ∙ c.if-is_any_alike.true)

pub returns-clause-passes : goal.returns-clause-passes
returns-clause-passes c = passes_given _ _ _ c.args.segment.now c.args.seg c.check_segment.result c.check_segment.ensures.exact
