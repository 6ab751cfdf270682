use Rattle.std.proofs.Common.{ap, arith, length, refl}
use Rattle.o2_swapmap.specs.Piles.{blocks_of}
use Rattle.o2_dumping.proofs.Segmenting.{blocks_left}
use Rattle.o2_dumping.proofs.Fitting.{long_more}
use Rattle.o2_dumping.proofs.Putting.{more_put, part_written, read_more, since}
use Rattle.o2_dumping.proofs.blocks.put_blocks.Goals as goal

pub returns-in_default : goal.returns-in_default
returns-in_default g c = record {
  text = λ told.
      let before = c.put_block.ensures.read.earlier told in
      part_written _ _ _ _ _ _ _ _ c.in_default.not-Done (c.loop-k.invariant.text before)
      (blocks_left (g.S.SwapDevice.block c.args.swap.now) (g.S.SwapDevice.block c.loop-k.swap) (blocks_of c.args.store.now.swap c.args.id.key) c.loop-k.k c.block_number.result
      (omega (arith, c.requires.count)) c.block_number.ensures.exact (c.loop-k.invariant.read.same before))
      (c.put_block.ensures.text told);
  long = λ told done. absurd (c.in_default.not-Done done);
  read = read_more _ _ _ _ _ _ _ _ _ c.loop-k.invariant.read c.put_block.ensures.read;
  causes = since _ _ _ _ _ _ _ c.loop-k.invariant.sinks c.loop-k.invariant.swaps c.put_block.ensures.causes;
  unread = λ none. let empty = ap length none in absurd (omega (arith, c.requires.count, empty));
}

pub loop-k-preserved : goal.loop-k-preserved
loop-k-preserved g c = record {
  text = λ told.
      let before = c.put_block.ensures.read.earlier told in
      more_put _ _ _ _ _ _ _ (c.loop-k.invariant.text before)
      (blocks_left (g.S.SwapDevice.block c.args.swap.now) (g.S.SwapDevice.block c.loop-k.swap) (blocks_of c.args.store.now.swap c.args.id.key) c.loop-k.k c.block_number.result
      (omega (arith, c.requires.count)) c.block_number.ensures.exact (c.loop-k.invariant.read.same before))
      (c.in-Done.ensures.text told);
  long = λ told.
      let before = c.put_block.ensures.read.earlier told in
      long_more (g.S.SwapDevice.block c.args.swap.now) (g.S.SwapDevice.block c.loop-k.swap) (blocks_of c.args.store.now.swap c.args.id.key) c.loop-k.k c.block_number.result
      (c.loop-k.invariant.long before) c.block_number.ensures.exact (c.loop-k.invariant.read.same before) (c.in-Done.ensures.long told refl);
  read = read_more _ _ _ _ _ _ _ _ _ c.loop-k.invariant.read c.put_block.ensures.read;
  sinks = omega (arith, c.loop-k.invariant.sinks, c.put_block.ensures.causes.sinks);
  swaps = omega (arith, c.loop-k.invariant.swaps, c.put_block.ensures.causes.swaps);
  unread = λ none. let empty = ap length none in absurd (omega (arith, c.requires.count, empty));
}
