use Rattle.std.proofs.Common.{◌≡◌, ℕ, Ok, Result, ap, ◌∙◌, arith, below_more}
use Rattle.std.proofs.lemmas.Result.{err_from_is_err_and}
use Rattle.o2_base.specs.declared.memory.Fail.TheVariants.{Bad}
use Rattle.o2_base.specs.declared.faults.ModuleFault.{ModuleFault}
use Rattle.o2_ne.proofs.Stepwise.{goes_on, fails_here, is_done}
use Rattle.o2_image.proofs.references.check_references.Goals as goal

pub returns-in_err-check_reference-clause-exact : goal.returns-in_err-check_reference-clause-exact
returns-in_err-check_reference-clause-exact c =
    let p = err_from_is_err_and c.from_residual.result c.from_residual.ensures.1 in
    rw (p.1, p.2) (fails_here (Bad c.in_err-check_reference.field-0.0) _ _ _ _ _ c.loop-k-test.true c.in_err-check_reference.ensures.exact c.loop-k.invariant.so_far)

pub loop-k-preserved : goal.loop-k-preserved
loop-k-preserved c = record {
  so_far = goes_on _ _ _ _ _ _ c.loop-k-test.true c.in_ok-check_reference.ensures.exact c.loop-k.invariant.so_far;
  lies = below_more _ _ c.loop-k.invariant.lies c.in_ok-check_reference.ensures.lies;
}

pub returns-clause-exact : goal.returns-clause-exact
returns-clause-exact c =
    let all : c.loop-k.k ≡ c.args.head.now.references = omega arith in
    let ok : ℕ → Result ℕ ModuleFault = λ n. Ok n in
    is_done _ _ _ _ _ c.loop-k-test.false c.loop-k.invariant.so_far ∙ ap ok all
