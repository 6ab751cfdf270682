use Rattle.std.proofs.Common.{sym, ◌∙◌}
use Rattle.o2_huge.proofs.Places.{members_next, members_none}
use Rattle.o2_huge.proofs.reallocating.members_of.Goals as goal

pub loop-place-init : goal.loop-place-init
loop-place-init c = members_none c.args.regions.now c.args.pid c.args.run.first

pub loop-place-preserved : goal.loop-place-preserved
loop-place-preserved c = members_next c.args.regions.now c.args.pid c.args.run.first c.loop-place.place c.loop-place.invariant (sym c.is_member.ensures ∙ c.if-not-is_member.false)
