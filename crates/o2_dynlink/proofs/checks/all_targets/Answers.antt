use Rattle.std.proofs.Common.{arith}
use Rattle.std.proofs.lemmas.Result.{err_from_is_err_and}
use Rattle.o2_ne.proofs.Overwise.{is_done}
use Rattle.o2_dynlink.proofs.Rows.{item_fails_here, item_goes_on}
use Rattle.o2_dynlink.proofs.Consistent.{fitting}
use Rattle.o2_dynlink.proofs.checks.all_targets.Goals as goal

pub returns-in_err-add_module-clause-exact : goal.returns-in_err-add_module-clause-exact
returns-in_err-add_module-clause-exact c =
    let p = err_from_is_err_and c.from_residual.result c.from_residual.ensures.1 in
    rw (p.1, p.2) (item_fails_here c.in_err-add_module.field-0.0 _ _ _ _ _ _ c.loop-module-test.true c.module-item.is c.in_err-add_module.ensures.step c.loop-module.invariant.so_far)

pub loop-module-preserved : goal.loop-module-preserved
loop-module-preserved c = record {
  so_far = item_goes_on _ _ _ _ _ _ _ c.loop-module-test.true c.module-item.is c.in_ok-add_module.ensures.step c.loop-module.invariant.so_far;
  count = omega (arith, c.in_ok-add_module.ensures.count, c.loop-module.invariant.count);
}

pub returns-clause-exact : goal.returns-clause-exact
returns-clause-exact c = is_done _ _ _ _ _ c.loop-module-test.false c.loop-module.invariant.so_far

pub returns-clause-fitting : goal.returns-clause-fitting
returns-clause-fitting c = fitting _ _ _ _ _ _ (is_done _ _ _ _ _ c.loop-module-test.false c.loop-module.invariant.so_far)
