use Rattle.std.proofs.Common.{arith, ◌∙◌}
use Rattle.o2_dumping.proofs.Holding.{all_from, counts_none, counts_one, held_more, held_none}
use Rattle.o2_dumping.proofs.processes.held_count.Goals as goal
use Rattle.o2_dumping.proofs.processes.held_count.Goals.{then-is_some, else-is_some}
use Rattle.std.proofs.Common.{length, ap, sym}

pub loop-index-init : goal.loop-index-init
loop-index-init c = record { counted = λ s. sym (ap length (held_none s c.args.regions.now c.args.pid 0)); most = omega arith }

pub loop-index-preserved : goal.loop-index-preserved
loop-index-preserved c =
    elim c.if-is_some.branch [
      | then-is_some w ↦ record {
        counted = λ s.
            let more = held_more s c.args.regions.now c.args.pid c.loop-index.index in
            let one = counts_one s c.args.regions.now c.args.pid c.loop-index.index c.held.result c.is_some.result c.held.ensures.held c.is_some.ensures w.if-is_some.true in
            let so_far = c.loop-index.invariant.counted s in
            omega (arith, more, one, so_far, w.count-is);
        most = omega arith;
      }
      | else-is_some w ↦ record {
        counted = λ s.
            let more = held_more s c.args.regions.now c.args.pid c.loop-index.index in
            let none = counts_none s c.args.regions.now c.args.pid c.loop-index.index c.held.result c.is_some.result c.held.ensures.held c.is_some.ensures w.if-is_some.false in
            let so_far = c.loop-index.invariant.counted s in
            omega (arith, more, none, so_far, w.count-is);
        most = omega arith;
      }
    ]

pub returns : goal.returns
returns c = λ s. c.loop-index.invariant.counted s ∙ ap length (all_from s c.args.regions.now c.args.pid c.loop-index.index (omega arith))
