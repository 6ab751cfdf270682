use Rattle.std.proofs.Common.{arith, refl, ap, ◌∙◌, ℕ, get_or, sym, ◌-◌}
use Rattle.o2_regions.proofs.Walks.{up_start, up_other, up_one, up_smaller}
use Rattle.o2_regions.proofs.links.kth_place.Goals as goal
use Rattle.o2_regions.proofs.links.kth_place.Goals.{then-is_held_as+else-left-eq0, else-is_held_as}

pub loop-at-init : goal.loop-at-init
loop-at-init c =
    up_start c.args.held.now c.args.next.now c.args.id c.args.k _ c.requires.next (ap (λ (x : ℕ). get_or c.args.next.now x 0) c.head_of.ensures)

pub loop-at-smaller : goal.loop-at-smaller
loop-at-smaller c = up_smaller c.args.held.now c.args.next.now c.args.id c.args.k c.loop-at.left c.loop-at.at _ c.requires.next c.loop-at.invariant c.loop-at-test.true refl

pub loop-at-preserved : goal.loop-at-preserved
loop-at-preserved c =
    elim c.if-is_held_as.branch [
      | then-is_held_as+else-left-eq0 w ↦ rw w.left-is (up_one c.args.held.now c.args.next.now c.args.id c.args.k c.loop-at.left
          (c.loop-at.left - 1) c.loop-at.at _ c.requires.next c.loop-at.invariant c.loop-at-test.true
          (sym c.is_held_as.ensures ∙ w.if-is_held_as.true) (omega arith) refl)
      | else-is_held_as w ↦ rw w.left-is (up_other c.args.held.now c.args.next.now c.args.id c.args.k c.loop-at.left c.loop-at.at _ c.requires.next c.loop-at.invariant c.loop-at-test.true (sym c.is_held_as.ensures ∙ w.if-is_held_as.false) refl)
    ]
