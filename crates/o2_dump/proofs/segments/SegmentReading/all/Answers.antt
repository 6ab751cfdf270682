use Rattle.std.proofs.lemmas.Result.{err_from_is_err_and}
use Rattle.o2_ne.proofs.Stepwise.{goes_on, fails_here, is_done}
use Rattle.o2_dump.proofs.segments.SegmentReading.all.Goals as goal

pub returns-in_err-reading-clause-exact : goal.returns-in_err-reading-clause-exact
returns-in_err-reading-clause-exact c =
    let p = err_from_is_err_and c.from_residual.result c.from_residual.ensures.1 in
    rw (p.1, p.2) (fails_here c.in_err-reading.field-0.0 _ _ _ _ _ c.loop-test.true c.in_err-reading.ensures.step c.loop.invariant.so_far)

pub loop-preserved : goal.loop-preserved
loop-preserved c = record {
  so_far = goes_on _ _ _ _ _ _ c.loop-test.true c.in_ok-reading.ensures.step c.loop.invariant.so_far;
  inside = c.in_ok-reading.ensures.inside;
}

pub returns-clause-exact : goal.returns-clause-exact
returns-clause-exact c = is_done _ _ _ _ _ c.loop-test.false c.loop.invariant.so_far
