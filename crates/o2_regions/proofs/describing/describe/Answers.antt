use Rattle.std.proofs.Common.{refl, ap, ◌∙◌, ℕ, get_or, sym}
use Rattle.o2_regions.proofs.Telling.{told_start, told_other, told_one, told_smaller}
use Rattle.o2_regions.proofs.describing.describe.Goals as goal
use Rattle.o2_regions.proofs.describing.describe.Goals.{then-is_held_as, else-is_held_as}

pub loop-at-init : goal.loop-at-init
loop-at-init c =
    told_start c.args.held.now c.args.next.now c.args.tables.now c.args.id c.args.base c.args.limit _ c.requires.next (ap (λ (x : ℕ). get_or c.args.next.now x 0) c.head_of.ensures)

pub loop-at-smaller : goal.loop-at-smaller
loop-at-smaller c = told_smaller c.args.held.now c.args.next.now c.args.tables.now c.loop-at.tables c.args.id c.args.base c.args.limit c.loop-at.at _ c.requires.next c.loop-at.invariant c.loop-at-test.true refl

pub loop-at-preserved : goal.loop-at-preserved
loop-at-preserved c =
    let old = c.args.tables.now in
    let now = c.loop-at.tables in
    elim c.if-is_held_as.branch [
      | then-is_held_as w ↦ rw (w.tables-is, w.place_entry.ensures, w.pair_of-pid.ensures)
          (told_one c.args.held.now c.args.next.now old now c.args.id c.args.base c.args.limit c.loop-at.at _ c.requires.next c.requires.tables c.loop-at.invariant c.loop-at-test.true (sym c.is_held_as.ensures ∙ w.if-is_held_as.true) refl)
      | else-is_held_as w ↦ rw w.tables-is (told_other c.args.held.now c.args.next.now old now c.args.id c.args.base c.args.limit c.loop-at.at _ c.requires.next c.loop-at.invariant c.loop-at-test.true (sym c.is_held_as.ensures ∙ w.if-is_held_as.false) refl)
    ]
