use Rattle.std.proofs.Common.{[], refl, sym, ap, ◌∙◌, ◌++◌}
use Rattle.o2_outer.specs.declared.sink.Put.TheVariants as put
use Rattle.o2_outer.proofs.TextLemmas.{gains_none}
use Rattle.o2_store.specs.declared.brought.Place.{Place}
use Rattle.o2_store.specs.Shelf.{blocks_for}
use Rattle.o2_store.proofs.Idling.{none_at}
use Rattle.o2_service.proofs.Amounts.{live_within}
use Rattle.o2_dumping.specs.Fronts.{segment_front}
use Rattle.o2_dumping.specs.Told.{blocks_told}
use Rattle.o2_dumping.proofs.Segmenting.{behind, segment_parts}
use Rattle.o2_dumping.proofs.Fitting.{fits_blocks, fits_other}
use Rattle.o2_dumping.proofs.Putting.{first_front, then_rest, then_written}
use Rattle.o2_dumping.proofs.segments.put_segment.Goals as goal

pub returns-in-Failed-clause-text : goal.returns-in-Failed-clause-text
returns-in-Failed-clause-text g c = λ told.
    first_front _ _ _ _ _ (segment_parts c.args.store.now (g.S.SwapDevice.block c.args.swap.now) c.args.id c.in-Some.shown (blocks_for c.in-Some.shown.kept) c.law.ensures.shelf c.in-Some.ensures refl)
    (rw (c.as_slice.ensures, c.segment_piece-piece.ensures.text) at c.in-Failed.ensures.takes)

pub returns-in-Blocks-clause-text : goal.returns-in-Blocks-clause-text
returns-in-Blocks-clause-text g c = λ told.
    let blocks = blocks_told c.args.store.now (g.S.SwapDevice.block c.args.swap.now) c.args.id.key in
    then_written _ _ _ _ _ _ _
    (segment_parts c.args.store.now (g.S.SwapDevice.block c.args.swap.now) c.args.id c.in-Some.shown (blocks_for c.in-Some.shown.kept) c.law.ensures.shelf c.in-Some.ensures refl
    ∙ ap (λ (z : Place). segment_front c.in-Some.shown (blocks_for c.in-Some.shown.kept) ++ behind z blocks) c.in-Blocks.is)
    (rw (c.as_slice.ensures, c.segment_piece-piece.ensures.text) at c.in-Done.ensures.takes) (c.put_blocks.ensures.text told)

pub returns-in-Zeros-clause-text : goal.returns-in-Zeros-clause-text
returns-in-Zeros-clause-text g c = λ told.
    let blocks = blocks_told c.args.store.now (g.S.SwapDevice.block c.args.swap.now) c.args.id.key in
    then_rest _ _ _ _ _ [] put.Done
    (segment_parts c.args.store.now (g.S.SwapDevice.block c.args.swap.now) c.args.id c.in-Some.shown (blocks_for c.in-Some.shown.kept) c.law.ensures.shelf c.in-Some.ensures refl
    ∙ ap (λ (z : Place). segment_front c.in-Some.shown (blocks_for c.in-Some.shown.kept) ++ behind z blocks) c.in-Zeros.is)
    (rw (c.as_slice.ensures, c.segment_piece-piece.ensures.text) at c.in-Done.ensures.takes) (gains_none _)

pub returns-in-Image-clause-text : goal.returns-in-Image-clause-text
returns-in-Image-clause-text g c = λ told.
    let blocks = blocks_told c.args.store.now (g.S.SwapDevice.block c.args.swap.now) c.args.id.key in
    then_rest _ _ _ _ _ [] put.Done
    (segment_parts c.args.store.now (g.S.SwapDevice.block c.args.swap.now) c.args.id c.in-Some.shown (blocks_for c.in-Some.shown.kept) c.law.ensures.shelf c.in-Some.ensures refl
    ∙ ap (λ (z : Place). segment_front c.in-Some.shown (blocks_for c.in-Some.shown.kept) ++ behind z blocks) c.in-Image.is)
    (rw (c.as_slice.ensures, c.segment_piece-piece.ensures.text) at c.in-Done.ensures.takes) (gains_none _)

pub returns-in-Memory-clause-text : goal.returns-in-Memory-clause-text
returns-in-Memory-clause-text g c = λ told.
    let blocks = blocks_told c.args.store.now (g.S.SwapDevice.block c.args.swap.now) c.args.id.key in
    then_rest _ _ _ _ _ [] put.Done
    (segment_parts c.args.store.now (g.S.SwapDevice.block c.args.swap.now) c.args.id c.in-Some.shown (blocks_for c.in-Some.shown.kept) c.law.ensures.shelf c.in-Some.ensures refl
    ∙ ap (λ (z : Place). segment_front c.in-Some.shown (blocks_for c.in-Some.shown.kept) ++ behind z blocks) c.in-Memory.is)
    (rw (c.as_slice.ensures, c.segment_piece-piece.ensures.text) at c.in-Done.ensures.takes) (gains_none _)

pub returns-in-Zeros-clause-fits : goal.returns-in-Zeros-clause-fits
returns-in-Zeros-clause-fits g c = λ told done.
    fits_other c.args.store.now (g.S.SwapDevice.block c.args.swap.now) c.args.id c.in-Some.shown c.in-Some.ensures c.segment_piece-piece.ensures.fits
    (λ e. let x = sym c.in-Zeros.is ∙ e in cc)

pub returns-in-Image-clause-fits : goal.returns-in-Image-clause-fits
returns-in-Image-clause-fits g c = λ told done.
    fits_other c.args.store.now (g.S.SwapDevice.block c.args.swap.now) c.args.id c.in-Some.shown c.in-Some.ensures c.segment_piece-piece.ensures.fits
    (λ e. let x = sym c.in-Image.is ∙ e in cc)

pub returns-in-Memory-clause-fits : goal.returns-in-Memory-clause-fits
returns-in-Memory-clause-fits g c = λ told done.
    fits_other c.args.store.now (g.S.SwapDevice.block c.args.swap.now) c.args.id c.in-Some.shown c.in-Some.ensures c.segment_piece-piece.ensures.fits
    (λ e. let x = sym c.in-Memory.is ∙ e in cc)

pub returns-in-Blocks-clause-fits : goal.returns-in-Blocks-clause-fits
returns-in-Blocks-clause-fits g c = λ told done.
    fits_blocks c.args.store.now (g.S.SwapDevice.block c.args.swap.now) c.args.id c.in-Some.shown c.law.ensures.shelf c.in-Some.ensures c.segment_piece-piece.ensures.fits c.in-Blocks.is
    (c.put_blocks.ensures.long told done)

pub returns-in-Blocks-clause-idle : goal.returns-in-Blocks-clause-idle
returns-in-Blocks-clause-idle g c = λ none.
    c.put_blocks.ensures.unread (none_at c.args.store.now c.args.id.key c.law.ensures.shelf (live_within c.args.store.now c.args.id c.requires.live) none)
