use Rattle.std.proofs.Common.{◌≡◌, ℕ, Ok, Result, ap, ◌∙◌, arith, length}
use Rattle.std.proofs.lemmas.Result.{err_from_is_err_and}
use Rattle.o2_ne.proofs.Overwise.{is_done}
use Rattle.o2_dynlink.proofs.Rows.{item_fails_here, item_goes_on}
use Rattle.o2_dynlink.specs.declared.fault.LinkFault.{LinkFault}
use Rattle.o2_dynlink.proofs.checks.check_names.Goals as goal

pub returns-in_err-check_name : goal.returns-in_err-check_name
returns-in_err-check_name c =
    let p = err_from_is_err_and c.from_residual.result c.from_residual.ensures.1 in
    rw (p.1, p.2) (item_fails_here c.in_err-check_name.field-0.0 _ _ _ _ _ _ c.loop-module-test.true c.module-item.is c.in_err-check_name.ensures c.loop-module.invariant.so_far)

pub loop-module-preserved : goal.loop-module-preserved
loop-module-preserved c = record {
  so_far = item_goes_on _ _ _ _ _ _ _ c.loop-module-test.true c.module-item.is c.in_ok-check_name.ensures c.loop-module.invariant.so_far;
  at = omega arith;
}

pub returns : goal.returns
returns c =
    let all : c.loop-module.i ≡ length c.args.modules.now = omega arith in
    let ok : ℕ → Result ℕ LinkFault = λ n. Ok n in
    is_done _ _ _ _ _ c.loop-module-test.false c.loop-module.invariant.so_far ∙ ap ok all
