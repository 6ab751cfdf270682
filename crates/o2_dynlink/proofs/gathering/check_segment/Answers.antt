use Rattle.std.proofs.lemmas.Result.{err_from_is_err_and}
use Rattle.std.proofs.Common.{refl}
use Rattle.o2_dynlink.proofs.Passing.{passed_by}
use Rattle.o2_dynlink.proofs.gathering.check_segment.Goals as goal

pub returns-in_err-_targets-clause-exact : goal.returns-in_err-_targets-clause-exact
returns-in_err-_targets-clause-exact c =
    let p = err_from_is_err_and c.from_residual.result c.from_residual.ensures.1 in
    rw (p.1, p.2) (passed_by c.in_err-_targets.field-0.0 _ c.in_err-_targets.ensures.exact)

pub returns-clause-exact : goal.returns-clause-exact
returns-clause-exact c = rw c.in_ok-_targets.ensures.exact refl
