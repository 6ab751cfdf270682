use Rattle.std.proofs.Common.{arith}
use Rattle.std.proofs.lemmas.Result.{err_from_is_err_and}
use Rattle.o2_ne.proofs.Stepwise.{goes_on, fails_here, is_done}
use Rattle.o2_ne.proofs.NameSteps.{is_over}
use Rattle.o2_ne.proofs.walking.walk_on.Goals as goal

pub returns-then-walking-clause-exact : goal.returns-then-walking-clause-exact
returns-then-walking-clause-exact c = is_over _ _ _ _ c.if-walking.true c.loop.invariant.0

pub returns-then-walking-clause-walks : goal.returns-then-walking-clause-walks
returns-then-walking-clause-walks c = c.loop.invariant.1.0

pub returns-in_err-step-clause-exact : goal.returns-in_err-step-clause-exact
returns-in_err-step-clause-exact c =
    let p = err_from_is_err_and c.from_residual.result c.from_residual.ensures.1 in
    rw (p.1, p.2) (fails_here c.in_err-step.field-0.0 _ _ _ _ _ c.loop-test.true c.in_err-step.ensures.exact c.loop.invariant.0)

pub loop-preserved : goal.loop-preserved
loop-preserved c =
    let more = c.in_ok-step.ensures.one in
    let few = c.loop.invariant.1.1 in
    (goes_on _ _ _ _ _ _ c.loop-test.true c.in_ok-step.ensures.exact c.loop.invariant.0, (c.in_ok-step.ensures.walks c.args.at c.loop.invariant.1.0, omega arith))

pub returns-clause-exact : goal.returns-clause-exact
returns-clause-exact c = is_done _ _ _ _ _ c.loop-test.false c.loop.invariant.0

pub returns-clause-walks : goal.returns-clause-walks
returns-clause-walks c = c.loop.invariant.1.0
