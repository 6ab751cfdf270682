use Rattle.std.proofs.Common.{arith, refl, ◌∙◌}
use Rattle.o2_dumping.proofs.Segmenting.{segments_left}
use Rattle.o2_dumping.proofs.Fitting.{fits_more}
use Rattle.o2_dumping.proofs.Putting.{more_put, part_written, read_more, since}
use Rattle.o2_dumping.proofs.segments.put_segments.Goals as goal

pub returns-in_default : goal.returns-in_default
returns-in_default g c = record {
  text = λ told.
      let before = c.put_segment.ensures.read.earlier told in
      part_written _ _ _ _ _ _ _ _ c.in_default.not-Done (c.loop-k.invariant.text before)
      (segments_left c.args.store.now (g.S.SwapDevice.block c.args.swap.now) (g.S.SwapDevice.block c.loop-k.swap) c.loop-k.k c.nth.result.key
      (omega (arith, c.live-k-end.ensures)) c.nth.ensures.key (c.loop-k.invariant.read.same before))
      (c.put_segment.ensures.text told);
  fits = λ told done. absurd (c.in_default.not-Done done);
  read = read_more _ _ _ _ _ _ _ _ _ c.loop-k.invariant.read c.put_segment.ensures.read;
  causes = since _ _ _ _ _ _ _ c.loop-k.invariant.sinks c.loop-k.invariant.swaps c.put_segment.ensures.causes;
  idle = λ none. c.put_segment.ensures.idle none ∙ c.loop-k.invariant.idle none;
}

pub loop-k-preserved : goal.loop-k-preserved
loop-k-preserved g c = record {
  text = λ told.
      let before = c.put_segment.ensures.read.earlier told in
      more_put _ _ _ _ _ _ _ (c.loop-k.invariant.text before)
      (segments_left c.args.store.now (g.S.SwapDevice.block c.args.swap.now) (g.S.SwapDevice.block c.loop-k.swap) c.loop-k.k c.nth.result.key
      (omega (arith, c.live-k-end.ensures)) c.nth.ensures.key (c.loop-k.invariant.read.same before))
      (c.in-Done.ensures.text told);
  fits = λ told.
      let before = c.put_segment.ensures.read.earlier told in
      fits_more c.args.store.now (g.S.SwapDevice.block c.args.swap.now) (g.S.SwapDevice.block c.loop-k.swap) c.loop-k.k c.nth.result.key
      (c.loop-k.invariant.fits before) c.nth.ensures.key (c.loop-k.invariant.read.same before) (c.in-Done.ensures.fits told refl);
  read = read_more _ _ _ _ _ _ _ _ _ c.loop-k.invariant.read c.put_segment.ensures.read;
  sinks = omega (arith, c.loop-k.invariant.sinks, c.put_segment.ensures.causes.sinks);
  swaps = omega (arith, c.loop-k.invariant.swaps, c.put_segment.ensures.causes.swaps);
  idle = λ none. c.put_segment.ensures.idle none ∙ c.loop-k.invariant.idle none;
}
