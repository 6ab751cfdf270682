use Rattle.std.proofs.Common.{arith}
use Rattle.std.proofs.lemmas.Result.{err_from_is_err_and}
use Rattle.o2_ne.proofs.Stepwise.{goes_on, fails_here, is_done}
use Rattle.o2_ne.proofs.entries.Reading.entries.Goals as goal

pub returns-in_err-entry-clause-step : goal.returns-in_err-entry-clause-step
returns-in_err-entry-clause-step c =
    let p = err_from_is_err_and c.from_residual.result c.from_residual.ensures.1 in
    rw (p.1, p.2) (fails_here c.in_err-entry.field-0.0 _ _ _ _ _ c.loop-test.true c.in_err-entry.ensures.step c.loop.invariant.so_far)

pub loop-preserved : goal.loop-preserved
loop-preserved c = record {
  so_far = goes_on _ _ _ _ _ _ c.loop-test.true c.in_ok-entry.ensures.step c.loop.invariant.so_far;
  place = omega arith;
  ordinal = omega arith;
}

pub returns-clause-step : goal.returns-clause-step
returns-clause-step c = is_done _ _ _ _ _ c.loop-test.false c.loop.invariant.so_far
