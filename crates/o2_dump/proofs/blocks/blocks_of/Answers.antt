use Rattle.std.proofs.Common.{rules}
use Rattle.std.proofs.lemmas.Result.{err_from_is_err_and}
use Rattle.o2_ne.proofs.Stepwise.{goes_on, fails_here, is_done}
use Rattle.o2_dump.proofs.blocks.blocks_of.Goals as goal

pub returns-in_err-add_block-clause-exact : goal.returns-in_err-add_block-clause-exact
returns-in_err-add_block-clause-exact c =
    let p = err_from_is_err_and c.from_residual.result c.from_residual.ensures.1 in
    rw (p.1, p.2) (fails_here c.in_err-add_block.field-0.0 _ _ _ _ _ c.loop-test.true c.in_err-add_block.ensures.step c.loop.invariant.so_far)

pub loop-preserved : goal.loop-preserved
loop-preserved c = record {
  so_far = goes_on _ _ _ _ _ _ c.loop-test.true c.in_ok-add_block.ensures.step c.loop.invariant.so_far;
  many = search rules;
  inside = c.in_ok-add_block.ensures.inside;
}

pub returns-clause-exact : goal.returns-clause-exact
returns-clause-exact c = is_done _ _ _ _ _ c.loop-test.false c.loop.invariant.so_far
