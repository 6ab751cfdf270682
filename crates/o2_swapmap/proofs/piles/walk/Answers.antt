use Rattle.std.proofs.Common.{◌≡◌, ◌+◌, ◌-◌, ◌∙◌, sym, arith}
use Rattle.o2_swapmap.proofs.Moves.{walk_step, walk_end}
use Rattle.o2_swapmap.proofs.piles.walk.Goals as goal

pub loop-preserved : goal.loop-preserved
loop-preserved c =
    let n = c.args.count - (c.loop.counter - (c.args.k + 1)) in
    let s = walk_step c.args.blocks.now c.args.owner c.loop.at n c.args.k c.loop.invariant.chain (omega arith) in
    let e : c.args.count - (c.loop.counter + 1 - (c.args.k + 1)) ≡ n - 1 = omega arith in
    rw e (record { chain = s.0; same = sym s.1 ∙ c.loop.invariant.same })

pub returns : goal.returns
returns c =
    let n = c.args.count - (c.loop.counter - (c.args.k + 1)) in
    sym (walk_end c.args.blocks.now c.args.owner c.loop.at n c.args.k c.loop.invariant.chain (omega arith)) ∙ c.loop.invariant.same
