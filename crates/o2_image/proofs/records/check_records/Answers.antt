use Rattle.std.proofs.Common.{◌≡◌, ℕ, Ok, Result, ap, ◌∙◌, arith, rules, below_more}
use Rattle.std.proofs.lemmas.Result.{err_from_is_err_and}
use Rattle.o2_base.specs.declared.memory.Fail.TheVariants.{Bad}
use Rattle.o2_base.specs.declared.faults.ModuleFault.{ModuleFault}
use Rattle.o2_ne.proofs.Overwise.{row_goes_on, row_fails_here, row_is_done}
use Rattle.o2_image.specs.Faults.{of_record}
use Rattle.o2_image.specs.Records.{Checking}
use Rattle.o2_image.proofs.records.check_records.Goals as goal

pub returns-in_err-check_record-clause-exact : goal.returns-in_err-check_record-clause-exact
returns-in_err-check_record-clause-exact c =
    let p = err_from_is_err_and c.from_residual.result c.from_residual.ensures.1 in
    let row : c.from.result ≡ c.loop-number.number = search rules in
    rw (p.1, p.2) (row_fails_here (Bad (of_record c.in_err-check_record.field-0.0)) _ _ _ _ _ _ c.loop-number-test.true (rw row at c.in_err-check_record.ensures.exact) c.loop-number.invariant.so_far)

pub loop-number-preserved : goal.loop-number-preserved
loop-number-preserved c =
    let row : c.from.result ≡ c.loop-number.number = search rules in
    record {
      so_far = row_goes_on _ _ _ _ _ _ _ c.loop-number-test.true (rw row at c.in_ok-check_record.ensures.exact) c.loop-number.invariant.so_far;
      known = c.check_record.ensures.known;
      places = below_more _ _ c.loop-number.invariant.places (rw row at c.in_ok-check_record.ensures.places);
    }

pub returns-clause-exact : goal.returns-clause-exact
returns-clause-exact c =
    let all : c.loop-number.number ≡ c.args.count = omega arith in
    let ok : ℕ → Result Checking ModuleFault = λ n. Ok (record { marks = c.loop-number.marks; number = n }) in
    row_is_done _ _ _ _ _ _ c.loop-number-test.false c.loop-number.invariant.so_far ∙ ap ok all
