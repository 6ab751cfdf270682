use Rattle.std.proofs.Common.{◌≤◌, arith, length}
use Rattle.std.proofs.lemmas.Result.{err_from_is_err_and}
use Rattle.o2_ne.proofs.Overwise.{is_done}
use Rattle.o2_image.specs.Getters.{nth_list}
use Rattle.o2_dynlink.proofs.Rows.{row_fails_here, row_goes_on}
use Rattle.o2_dynlink.proofs.imports.targets_in.Goals as goal

pub returns-in_err-add_target-clause-exact : goal.returns-in_err-add_target-clause-exact
returns-in_err-add_target-clause-exact c =
    let p = err_from_is_err_and c.from_residual.result c.from_residual.ensures.1 in
    rw (p.1, p.2) (row_fails_here c.in_err-add_target.field-0.0 _ (nth_list c.args.«module».now.relocs c.args.seg) c.loop-k.k _ _ _ c.record_at-reloc.ensures c.in_err-add_target.ensures.exact c.loop-k.invariant.so_far)

pub loop-k-preserved : goal.loop-k-preserved
loop-k-preserved c = record {
  so_far = row_goes_on _ (nth_list c.args.«module».now.relocs c.args.seg) c.loop-k.k _ _ _ _ c.record_at-reloc.ensures c.in_ok-add_target.ensures.exact c.loop-k.invariant.so_far;
  memo = c.in_ok-add_target.ensures.memo;
}

pub returns-clause-exact : goal.returns-clause-exact
returns-clause-exact c =
    let le : length (nth_list c.args.«module».now.relocs c.args.seg) ≤ c.loop-k.k = omega arith in
    is_done _ _ _ _ _ le c.loop-k.invariant.so_far
