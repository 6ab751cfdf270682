use Rattle.std.proofs.Common.{◌+◌, ◌∙◌, ap, sym}
use Rattle.std.proofs.lemmas.Result.{err_from_is_err_and}
use Rattle.o2_conf.proofs.Each.{goes_on, err_here, is_done}
use Rattle.o2_conf.proofs.process.count_tables.Goals as goal

pub returns-in_err-count-clause-exact : goal.returns-in_err-count-clause-exact
returns-in_err-count-clause-exact c =
    let p = err_from_is_err_and c.from_residual.result c.from_residual.ensures.1 in
    rw (p.1, p.2) (sym (err_here _ _ _ _ _ _ _ c.loop-value-test.true c.value-item.is (sym c.in_err-count.ensures.exact) c.loop-value.invariant.so_far))

pub loop-value-preserved : goal.loop-value-preserved
loop-value-preserved c = record {
  so_far = goes_on _ _ _ _ _ _ _ c.loop-value-test.true c.value-item.is (sym c.in_ok-count.ensures.exact) c.loop-value.invariant.so_far;
  count = c.in_ok-count.ensures.count ∙ ap (λ n. n + 1) c.loop-value.invariant.count;
}

pub returns-clause-exact : goal.returns-clause-exact
returns-clause-exact c = sym (is_done _ _ _ _ _ c.loop-value-test.false c.loop-value.invariant.so_far)
