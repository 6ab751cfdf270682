use Rattle.std.proofs.lemmas.Result.{err_from_is_err_and}
use Rattle.o2_base.specs.declared.memory.Fail.TheVariants.{Bad}
use Rattle.o2_ne.proofs.Stepwise.{goes_on, fails_here, is_done}
use Rattle.o2_image.specs.Faults.{of_record}
use Rattle.o2_image.proofs.ChainSteps.{is_over}
use Rattle.o2_image.proofs.chain.walk_on.Goals as goal

pub returns-then-walking : goal.returns-then-walking
returns-then-walking c = is_over _ _ _ _ _ _ c.if-walking.true c.loop.invariant

pub returns-in_err-step : goal.returns-in_err-step
returns-in_err-step c =
    let p = err_from_is_err_and c.from_residual.result c.from_residual.ensures.1 in
    rw (p.1, p.2) (fails_here (Bad (of_record c.in_err-step.field-0.0)) _ _ _ _ _ c.loop-test.true c.in_err-step.ensures c.loop.invariant)

pub loop-preserved : goal.loop-preserved
loop-preserved c = goes_on _ _ _ _ _ _ c.loop-test.true c.in_ok-step.ensures c.loop.invariant

pub returns : goal.returns
returns c = is_done _ _ _ _ _ c.loop-test.false c.loop.invariant
