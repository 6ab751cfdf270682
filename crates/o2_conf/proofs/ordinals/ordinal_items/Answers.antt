use Rattle.std.proofs.lemmas.Result.{err_from_is_err_and}
use Rattle.o2_conf.proofs.EachMember.{goes_on, fails_here, is_done}
use Rattle.o2_conf.proofs.ordinals.ordinal_items.Goals as goal

pub loop-name-preserved : goal.loop-name-preserved
loop-name-preserved c = goes_on _ _ _ _ _ _ _ _ c.in-Some.ensures.steps (rw c.as_str.ensures.value at c.in_ok-ordinal_item.ensures) c.loop-name.invariant

pub returns-in_err-ordinal_item : goal.returns-in_err-ordinal_item
returns-in_err-ordinal_item c =
    let p = err_from_is_err_and c.from_residual.result c.from_residual.ensures.1 in
    rw (p.1, p.2) (fails_here c.in_err-ordinal_item.field-0.0 _ _ _ _ _ _ _ c.in-Some.ensures.steps (rw c.as_str.ensures.value at c.in_err-ordinal_item.ensures) c.loop-name.invariant)

pub returns : goal.returns
returns c = is_done _ _ _ _ c.in-None.ensures.steps.0 c.loop-name.invariant
