use Rattle.std.proofs.Common.{length, get_or, ap, sym, ◌∙◌, arith}
use Rattle.o2_image.proofs.Shapes.{fails, goes_on, other_lengths, relocs_length}
use Rattle.o2_image.proofs.images.are_targets.Goals as goal

pub returns-then-segments-len : goal.returns-then-segments-len
returns-then-segments-len c = sym (other_lengths _ c.args.targets.now c.args.segments.now (λ e. c.if-segments-len.true (sym e ∙ sym c.len.ensures)))

pub returns-then-found-count : goal.returns-then-found-count
returns-then-found-count c =
    let rows = c.from-count.ensures ∙ c.reloc_count.ensures ∙ sym (relocs_length c.args.file.now (get_or c.args.segments.now c.loop-i.i _)) in
    fails _ c.args.targets.now c.args.segments.now c.loop-i.i _ _ (omega (arith, c.len.ensures)) c.loop-i-test.true
    (λ e. c.if-found-count.true (c.len-found.ensures ∙ ap length c.at.ensures ∙ e ∙ sym rows)) c.loop-i.invariant

pub loop-i-preserved : goal.loop-i-preserved
loop-i-preserved c =
    let rows = c.from-count.ensures ∙ c.reloc_count.ensures ∙ sym (relocs_length c.args.file.now (get_or c.args.segments.now c.loop-i.i _)) in
    goes_on _ c.args.targets.now c.args.segments.now c.loop-i.i _ _ (omega (arith, c.len.ensures)) c.loop-i-test.true
    (sym (c.len-found.ensures ∙ ap length c.at.ensures) ∙ c.if-found-count.false ∙ rows) c.loop-i.invariant
