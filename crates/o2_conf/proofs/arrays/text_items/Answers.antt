use Rattle.std.proofs.lemmas.Result.{err_from_is_err_and}
use Rattle.o2_conf.proofs.Each.{goes_on, fails_here, is_done}
use Rattle.o2_conf.proofs.arrays.text_items.Goals as goal

pub returns-in_err-text_item : goal.returns-in_err-text_item
returns-in_err-text_item c =
    let p = err_from_is_err_and c.from_residual.result c.from_residual.ensures.1 in
    rw (p.1, p.2) (fails_here c.in_err-text_item.field-0.0 _ _ _ _ _ _ c.loop-value-test.true c.value-item.is c.in_err-text_item.ensures c.loop-value.invariant)

pub loop-value-preserved : goal.loop-value-preserved
loop-value-preserved c = goes_on _ _ _ _ _ _ _ c.loop-value-test.true c.value-item.is c.in_ok-text_item.ensures c.loop-value.invariant

pub returns : goal.returns
returns c = is_done _ _ _ _ _ c.loop-value-test.false c.loop-value.invariant
