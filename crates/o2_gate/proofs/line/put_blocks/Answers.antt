use Rattle.std.proofs.Common.{arith}
use Rattle.std.proofs.lemmas.List.{take_all}
use Rattle.std.proofs.lemmas.List.Folds.{length-flat_map-take}
use Rattle.o2_outer.specs.declared.sink.Put.TheVariants as put
use Rattle.o2_outer.proofs.TextLemmas.{puts_more, puts_second}
use Rattle.o2_gate.specs.MovedLines.{all_lines, block_lines}
use Rattle.o2_gate.proofs.MovedLines.{count_more, inside_at, item_fails, no_block, text_more, text_split}
use Rattle.o2_gate.proofs.line.put_blocks.Goals as goal

pub put_block-requires-clause-inside : goal.put_block-requires-clause-inside
put_block-requires-clause-inside g c = inside_at c.args.blocks.now c.loop-block.block-index no_block c.requires.inside c.loop-block-test.true

pub returns-in-Failed-clause-report : goal.returns-in-Failed-clause-report
unfolding all_lines
returns-in-Failed-clause-report g c =
    rw (text_split (block_lines c.args.cause.now) c.args.blocks.now c.loop-block.block-index no_block c.loop-block-test.true)
    (puts_second _ _ _ _ _ _ c.loop-block.invariant.so_far c.in-Failed.ensures.report)

pub returns-in-Failed-clause-puts : goal.returns-in-Failed-clause-puts
unfolding all_lines
returns-in-Failed-clause-puts g c =
    let within = length-flat_map-take (block_lines c.args.cause.now) c.args.blocks.now c.loop-block.block-index no_block c.loop-block-test.true in (
      omega (arith, c.loop-block.invariant.puts, c.in-Failed.ensures.puts.0),
      omega (arith, within, c.loop-block.invariant.puts, c.in-Failed.ensures.puts.1),
    )

pub loop-block-preserved : goal.loop-block-preserved
loop-block-preserved g c = record {
  so_far = rw (text_more (block_lines c.args.cause.now) c.args.blocks.now c.loop-block.block-index no_block c.loop-block-test.true)
      (puts_more _ _ _ _ _ put.Done c.loop-block.invariant.so_far c.in-Done.ensures.report);
  puts =
      let more = count_more (block_lines c.args.cause.now) c.args.blocks.now c.loop-block.block-index no_block c.loop-block-test.true in
      omega (arith, more, c.loop-block.invariant.puts, c.in-Done.ensures.puts);
  count = omega (arith, c.loop-block.invariant.count, c.in-Done.ensures.count);
}

pub returns-clause-report : goal.returns-clause-report
unfolding all_lines
returns-clause-report g c = rw (take_all c.loop-block.block-index c.args.blocks.now (omega arith)) at c.loop-block.invariant.so_far

pub returns-clause-puts : goal.returns-clause-puts
unfolding all_lines
returns-clause-puts g c = rw (take_all c.loop-block.block-index c.args.blocks.now (omega arith)) at c.loop-block.invariant.puts

pub returns-in-Failed-clause-line : goal.returns-in-Failed-clause-line
unfolding all_lines
returns-in-Failed-clause-line g c =
    item_fails (block_lines c.args.cause.now) c.args.blocks.now c.loop-block.block-index no_block c.loop-block-test.true _ _ _ _ _ _
    c.loop-block.invariant.so_far c.loop-block.invariant.puts c.in-Failed.ensures.line
