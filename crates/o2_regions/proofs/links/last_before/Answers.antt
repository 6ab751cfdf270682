use Rattle.std.proofs.Common.{arith, refl, ap, ℕ, get_or}
use Rattle.o2_regions.specs.Links.{list_of}
use Rattle.o2_regions.proofs.Walks.{down_start, down_more, down_smaller}
use Rattle.o2_regions.proofs.links.last_before.Goals as goal

pub loop-at-init : goal.loop-at-init
loop-at-init c =
    down_start c.args.held.now c.args.prev.now (list_of c.args.key) c.args.place _ c.requires.prev (omega arith) (omega arith) (ap (λ (x : ℕ). get_or c.args.prev.now x 0) c.head_of.ensures)

pub loop-at-smaller : goal.loop-at-smaller
loop-at-smaller c =
    down_smaller c.args.held.now c.args.prev.now (list_of c.args.key) c.args.place c.loop-at.at _ c.requires.prev (omega arith) c.loop-at.invariant c.loop-at-test.true refl

pub loop-at-preserved : goal.loop-at-preserved
loop-at-preserved c =
    down_more c.args.held.now c.args.prev.now (list_of c.args.key) c.args.place c.loop-at.at _ c.requires.prev (omega arith) c.loop-at.invariant c.loop-at-test.true c.if-place-at.true refl
