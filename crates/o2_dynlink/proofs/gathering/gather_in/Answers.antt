use Rattle.std.proofs.Common.{◌≤◌, ◌<◌, ap, arith, length, refl}
use Rattle.std.proofs.lemmas.Result.{err_from_is_err_and}
use Rattle.o2_ne.proofs.Overwise.{fails_here, goes_on, is_done}
use Rattle.o2_dynlink.specs.Imports.{on_list, target_in}
use Rattle.o2_dynlink.proofs.Sharing.{known_after, longer}
use Rattle.o2_dynlink.proofs.gathering.gather_in.Goals as goal

pub returns-in_err-more-clause-exact : goal.returns-in_err-more-clause-exact
returns-in_err-more-clause-exact c =
    let lt : c.loop-k.k < length c.args.order.now = omega arith in
    let p = err_from_is_err_and c.from_residual.result c.from_residual.ensures.1 in
    rw (p.1, p.2) (fails_here c.in_err-more.field-0.0 _ c.args.order.now c.loop-k.k 0 _ _ lt (rw c.from.ensures at c.in_err-more.ensures.exact) c.loop-k.invariant.so_far)

pub loop-k-init : goal.loop-k-init
loop-k-init c = record {
  so_far = rw c.new-found.ensures refl;
  count = ap length c.new-found.ensures;
  known = tt;
  memo = c.requires.memo;
}

pub loop-k-preserved : goal.loop-k-preserved
loop-k-preserved c =
    let g = on_list (target_in c.args.scope.now.modules.now c.args.scope.now.bases.now c.args.scope.now.shim c.args.scope.now.ordinals.now c.args.base c.args.«module».now) c.args.«module».now.relocs in
    let lt : c.loop-k.k < length c.args.order.now = omega arith in
    record {
      so_far = goes_on _ c.args.order.now c.loop-k.k 0 _ _ _ lt (rw c.from.ensures at c.in_ok-more.ensures.exact) c.loop-k.invariant.so_far;
      count = longer g _ _ _ c.loop-k.k c.loop-k.invariant.count c.in_ok-more.ensures.exact;
      known = known_after g _ _ _ c.loop-k.k _ _ c.in_ok-more.more c.loop-k.invariant.count c.in_ok-more.ensures.exact c.loop-k.invariant.known c.after-last.ensures;
      memo = c.in_ok-more.ensures.memo;
    }

pub returns-clause-exact : goal.returns-clause-exact
returns-clause-exact c =
    let le : length c.args.order.now ≤ c.loop-k.k = omega arith in
    is_done _ _ _ _ _ le c.loop-k.invariant.so_far
