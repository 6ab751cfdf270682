use Rattle.std.proofs.Common.{◌+◌, ◌∙◌, ap}
use Rattle.std.proofs.lemmas.Result.{err_from_is_err_and}
use Rattle.o2_conf.proofs.Each.{goes_on, fails_here, is_done}
use Rattle.o2_conf.proofs.process.process_items.Goals as goal

pub returns-in_err-process_item-clause-exact : goal.returns-in_err-process_item-clause-exact
returns-in_err-process_item-clause-exact c =
    let p = err_from_is_err_and c.from_residual.result c.from_residual.ensures.1 in
    rw (p.1, p.2) (fails_here c.in_err-process_item.field-0.0 _ _ _ _ _ _ c.loop-value-test.true c.value-item.is c.in_err-process_item.ensures.exact c.loop-value.invariant.so_far)

pub loop-value-preserved : goal.loop-value-preserved
loop-value-preserved c = record {
  so_far = goes_on _ _ _ _ _ _ _ c.loop-value-test.true c.value-item.is c.in_ok-process_item.ensures.exact c.loop-value.invariant.so_far;
  count = c.in_ok-process_item.ensures.count ∙ ap (λ n. n + 1) c.loop-value.invariant.count;
  fits = c.in_ok-process_item.ensures.fits c.loop-value.invariant.fits;
}

pub returns-clause-exact : goal.returns-clause-exact
returns-clause-exact c = is_done _ _ _ _ _ c.loop-value-test.false c.loop-value.invariant.so_far
