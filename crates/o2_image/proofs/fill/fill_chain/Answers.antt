use Rattle.std.proofs.Common.{◌≡◌, ◌∙◌, ◌==◌, sym, true, false, eq-eqb}
use Rattle.std.proofs.lemmas.Bool.{ne_eqb}
use Rattle.o2_ne.specs.Words.{word_at}
use Rattle.o2_image.specs.Images.{patch_at}
use Rattle.o2_image.proofs.PlaceSteps.{fill_ends, fill_goes, fill_over, fits_first, fits_rest}
use Rattle.o2_image.proofs.fill.fill_chain.Goals as goal

pub u16_at-word-requires : goal.u16_at-word-requires
u16_at-word-requires c = fits_first _ _ _ _ c.loop-test.true c.loop.invariant.fit

pub returns-then-word : goal.returns-then-word
returns-then-word c =
    let over : (word_at c.args.bytes.now c.loop.next == 65535) ≡ true = eq-eqb _ _ (sym c.u16_at-word.ensures ∙ c.if-word.true) in
    λ i h. fill_ends _ (patch_at c.args.bytes.now c.args.reloc.now c.args.target) _ _ _ _ _ _ _ c.loop-test.true over (c.put_patch.ensures i h) (c.loop.invariant.rest i (rw (← c.put_patch.auto.into) h))

pub loop-preserved : goal.loop-preserved
loop-preserved c =
    let goes : (word_at c.args.bytes.now c.loop.next == 65535) ≡ false = ne_eqb _ _ (λ e. c.if-word.false (c.u16_at-word.ensures ∙ e)) in
    record {
      rest = λ i h. rw c.u16_at-word.ensures (fill_goes _ (patch_at c.args.bytes.now c.args.reloc.now c.args.target) _ _ _ _ _ _ _ c.loop-test.true goes (c.put_patch.ensures i h) (c.loop.invariant.rest i (rw (← c.put_patch.auto.into) h)));
      fit = rw c.u16_at-word.ensures (fits_rest _ _ _ _ c.loop-test.true goes c.loop.invariant.fit);
    }

pub returns : goal.returns
returns c = λ i h. fill_over _ (patch_at c.args.bytes.now c.args.reloc.now c.args.target) _ _ _ _ _ _ c.loop-test.false (c.loop.invariant.rest i h)
