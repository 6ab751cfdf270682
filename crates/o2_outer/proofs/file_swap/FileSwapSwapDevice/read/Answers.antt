-- A block that was in memory is given as it was there, and one that wasn't as the file gave it.
use Rattle.std.proofs.Common.{◌≡◌, sym, ◌∙◌, subst, arith, refl, true}
use Rattle.std.proofs.lemmas.Grind.{common_steps}
use Rattle.o2_outer.specs.declared.window.Window.{Window}
use Rattle.o2_outer.specs.Ahead.{has_block}
use Rattle.o2_outer.proofs.Filled.{given_as}
use Rattle.o2_outer.proofs.file_swap.FileSwapSwapDevice.read.Goals as goal
use Rattle.o2_outer.proofs.file_swap.FileSwapSwapDevice.read.Goals.{then-open, else-open, then-reads, else-reads}

-- src/file_swap.rt
pub returns-clause-held : goal.returns-clause-held
returns-clause-held g c =
    let done : c.if-open.value ≡ true = elim c.if-reads.branch [
      | then-reads w ↦ w.if-reads.true
      | else-reads w ↦ absurd (grind (arith, common_steps, w.value-is, c.if-not-agrees.false))
    ] in
    λ block h t. elim c.if-open.branch [
      | then-open w ↦ w.into-is ∙ w.reads.ensures.held block (subst (λ (v : Window). has_block v c.args.i block) (sym c.open.ensures.window) h) (sym w.value-is ∙ done)
      | else-open w ↦ absurd (grind (arith, common_steps, w.value-is, done))
    ]

pub returns-clause-from : goal.returns-clause-from
returns-clause-from g c =
    let done : c.if-open.value ≡ true = elim c.if-reads.branch [
      | then-reads w ↦ w.if-reads.true
      | else-reads w ↦ absurd (grind (arith, common_steps, w.value-is, c.if-not-agrees.false))
    ] in
    λ t. elim c.if-open.branch [
      | then-open w ↦ given_as _ _ _ _ _ _ c.args.i _ _ c.open.ensures.window (sym (rw w.self-is refl)) (sym w.into-is) (w.reads.ensures.from (sym w.value-is ∙ done))
      | else-open w ↦ absurd (grind (arith, common_steps, w.value-is, done))
    ]
