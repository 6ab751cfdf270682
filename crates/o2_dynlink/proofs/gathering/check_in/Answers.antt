use Rattle.std.proofs.Common.{◌≤◌, ◌<◌, arith, length}
use Rattle.std.proofs.lemmas.Result.{err_from_is_err_and}
use Rattle.o2_dynlink.proofs.Passing.{all_pass, none_yet, one_more, stops}
use Rattle.o2_dynlink.proofs.gathering.check_in.Goals as goal

pub loop-k-init : goal.loop-k-init
loop-k-init c = record { so_far = none_yet _ _; memo = c.requires.memo }

pub returns-in_err-check_segment-clause-exact : goal.returns-in_err-check_segment-clause-exact
returns-in_err-check_segment-clause-exact c =
    let lt : c.loop-k.k < length c.args.order.now = omega arith in
    let p = err_from_is_err_and c.from_residual.result c.from_residual.ensures.1 in
    rw (p.1, p.2) (stops _ c.args.order.now c.in_err-check_segment.field-0.0 c.loop-k.k lt c.in_err-check_segment.ensures.exact c.loop-k.invariant.so_far)

pub loop-k-preserved : goal.loop-k-preserved
loop-k-preserved c =
    let lt : c.loop-k.k < length c.args.order.now = omega arith in
    record {
      so_far = one_more _ c.args.order.now c.loop-k.k lt c.in_ok-check_segment.ensures.exact c.loop-k.invariant.so_far;
      memo = c.in_ok-check_segment.ensures.memo;
    }

pub returns-clause-exact : goal.returns-clause-exact
returns-clause-exact c =
    let le : length c.args.order.now ≤ c.loop-k.k = omega arith in
    all_pass _ c.args.order.now c.loop-k.k le c.loop-k.invariant.so_far
