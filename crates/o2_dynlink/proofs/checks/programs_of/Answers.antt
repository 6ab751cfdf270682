use Rattle.std.proofs.Common.{arith}
use Rattle.std.proofs.lemmas.Result.{err_from_is_err_and}
use Rattle.o2_ne.proofs.Overwise.{is_done}
use Rattle.o2_dynlink.proofs.Rows.{item_fails_here, item_goes_on}
use Rattle.o2_dynlink.proofs.checks.programs_of.Goals as goal

pub returns-in_err-add_program-clause-exact : goal.returns-in_err-add_program-clause-exact
returns-in_err-add_program-clause-exact c =
    let p = err_from_is_err_and c.from_residual.result c.from_residual.ensures.1 in
    rw (p.1, p.2) (item_fails_here c.in_err-add_program.field-0.0 _ _ _ _ _ _ c.loop-process-test.true c.process-item.is c.in_err-add_program.ensures.exact c.loop-process.invariant.so_far)

pub loop-process-preserved : goal.loop-process-preserved
loop-process-preserved c = record {
  so_far = item_goes_on _ _ _ _ _ _ _ c.loop-process-test.true c.process-item.is c.in_ok-add_program.ensures.exact c.loop-process.invariant.so_far;
  count = omega (arith, c.in_ok-add_program.ensures.count, c.loop-process.invariant.count);
  exist = c.in_ok-add_program.ensures.exist c.loop-process.invariant.exist;
}

pub returns-clause-exact : goal.returns-clause-exact
returns-clause-exact c = is_done _ _ _ _ _ c.loop-process-test.false c.loop-process.invariant.so_far
