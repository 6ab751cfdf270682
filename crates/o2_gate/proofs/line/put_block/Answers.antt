use Rattle.std.proofs.Common.{arith}
use Rattle.o2_outer.specs.declared.sink.Put.TheVariants as put
use Rattle.o2_outer.proofs.TextLemmas.{puts_more, puts_second}
use Rattle.o2_gate.proofs.MovedLines.{block_count, block_fails, block_more, block_split, block_whole, block_within}
use Rattle.o2_gate.proofs.line.put_block.Goals as goal

pub returns-in-Failed-clause-report : goal.returns-in-Failed-clause-report
returns-in-Failed-clause-report g c =
    rw (block_split c.args.cause.now c.args.block.now c.loop-place.place (omega arith))
    (puts_second _ _ _ _ _ _ c.loop-place.invariant.so_far c.in-Failed.ensures.report)

pub returns-in-Failed-clause-puts : goal.returns-in-Failed-clause-puts
returns-in-Failed-clause-puts g c =
    let within = block_within c.args.cause.now c.args.block.now c.loop-place.place (omega arith) in (
      omega (arith, c.loop-place.invariant.puts, c.in-Failed.ensures.puts.0),
      omega (arith, within, c.loop-place.invariant.puts, c.in-Failed.ensures.puts.1),
    )

pub loop-place-preserved : goal.loop-place-preserved
loop-place-preserved g c = record {
  so_far = rw (block_more c.args.cause.now c.args.block.now c.loop-place.place (omega arith))
      (puts_more _ _ _ _ _ put.Done c.loop-place.invariant.so_far c.in-Done.ensures.report);
  puts =
      let more = block_count c.args.cause.now c.args.block.now c.loop-place.place (omega arith) in
      omega (arith, more, c.loop-place.invariant.puts, c.in-Done.ensures.puts);
  count = omega (arith, c.loop-place.invariant.count, c.in-Done.ensures.count);
}

pub returns-clause-report : goal.returns-clause-report
returns-clause-report g c =
    rw (block_whole c.args.cause.now c.args.block.now c.loop-place.place (omega arith)) at c.loop-place.invariant.so_far

pub returns-clause-puts : goal.returns-clause-puts
returns-clause-puts g c =
    rw (block_whole c.args.cause.now c.args.block.now c.loop-place.place (omega arith)) at c.loop-place.invariant.puts

pub returns-in-Failed-clause-line : goal.returns-in-Failed-clause-line
returns-in-Failed-clause-line g c =
    block_fails c.args.cause.now c.args.block.now c.loop-place.place (omega arith) _ _ _ _ _ _ c.loop-place.invariant.so_far c.loop-place.invariant.puts c.in-Failed.ensures.line
