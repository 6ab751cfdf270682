use Rattle.std.proofs.Common.{◌+◌, arith, refl, sym}
use Rattle.o2_changes.proofs.Freeing.{nobody_more, nobody_yet, shared_some}
use Rattle.o2_changes.proofs.dropping.is_shared_held.Goals as goal

pub loop-before-init : goal.loop-before-init
loop-before-init c = nobody_yet c.args.regions.now c.args.index 0 refl

pub returns-then-holds_at : goal.returns-then-holds_at
returns-then-holds_at c = sym (shared_some c.args.regions.now c.args.index c.args.regions.now.processes (c.loop-before.before + 1) (sym c.if-holds_at.ensures) (omega arith) (omega (arith, c.processes-before-end.ensures)))

pub loop-before-preserved : goal.loop-before-preserved
loop-before-preserved c = nobody_more c.args.regions.now c.args.index c.loop-before.before c.loop-before.invariant (sym c.if-holds_at.ensures)
