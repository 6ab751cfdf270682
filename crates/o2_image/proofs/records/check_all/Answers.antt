use Rattle.std.proofs.Common.{◌≡◌, ℕ, ◌+◌, Ok, Result, ap, ◌∙◌, arith, length}
use Rattle.std.proofs.lemmas.Result.{err_from_is_err_and}
use Rattle.o2_base.specs.declared.faults.ModuleFault.{ModuleFault}
use Rattle.o2_ne.proofs.Each.{each_more}
use Rattle.o2_ne.proofs.Overwise.{goes_on, fails_here, is_done}
use Rattle.o2_image.specs.Alike.{Passes}
use Rattle.o2_image.specs.Whole.{HasSegment}
use Rattle.o2_image.proofs.Uniform.{of_front}
use Rattle.o2_image.proofs.records.check_all.Goals as goal

pub check_once-requires-clause-passed : goal.check_once-requires-clause-passed
check_once-requires-clause-passed c =
    of_front (Passes c.args.scope.now.file.now c.args.scope.now.head.now c.args.scope.now.entries.now) c.args.segments.now c.loop-i.i (omega arith) c.loop-i.invariant.passed

pub check_once-requires-clause-has : goal.check_once-requires-clause-has
check_once-requires-clause-has c = of_front (HasSegment c.args.scope.now.file.now) c.args.segments.now c.loop-i.i (omega arith) c.loop-i.invariant.whole

pub returns-in_err-check_once-clause-exact : goal.returns-in_err-check_once-clause-exact
returns-in_err-check_once-clause-exact c =
    let p = err_from_is_err_and c.from_residual.result c.from_residual.ensures.1 in
    rw (p.1, p.2) (fails_here c.in_err-check_once.field-0.0 _ _ _ _ _ _ c.loop-i-test.true c.in_err-check_once.ensures.exact c.loop-i.invariant.so_far)

pub loop-i-preserved : goal.loop-i-preserved
loop-i-preserved c = record {
  so_far = goes_on _ _ _ _ _ _ _ c.loop-i-test.true c.in_ok-check_once.ensures.exact c.loop-i.invariant.so_far;
  at = omega arith;
  known = c.check_once.ensures.known;
  passed = each_more (Passes c.args.scope.now.file.now c.args.scope.now.head.now c.args.scope.now.entries.now) _ _ _ c.loop-i-test.true c.loop-i.invariant.passed c.in_ok-check_once.ensures.passes;
  whole = each_more (HasSegment c.args.scope.now.file.now) _ _ _ c.loop-i-test.true c.loop-i.invariant.whole c.in_ok-check_once.ensures.whole;
}

pub returns-clause-exact : goal.returns-clause-exact
returns-clause-exact c =
    let all : c.loop-i.number ≡ length c.args.segments.now + 1 = omega arith in
    let ok : ℕ → Result ℕ ModuleFault = λ n. Ok n in
    is_done _ _ _ _ _ c.loop-i-test.false c.loop-i.invariant.so_far ∙ ap ok all
