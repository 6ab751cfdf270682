use Rattle.std.proofs.Common.{◌≡◌, ◌≤◌, ◌+◌, ◌*◌, ℕ, length, rules}
use Rattle.std.proofs.lemmas.Result.{err_from_is_err_and}
use Rattle.o2_ne.proofs.Each.{each_pushed, each_pushed_at}
use Rattle.o2_ne.proofs.Stepwise.{goes_on, is_done}
use Rattle.o2_ne_segs.proofs.SegSteps.{fails_here}
use Rattle.o2_ne_segs.specs.declared.segment.Segment.{Segment}
use Rattle.o2_ne_segs.specs.Records.{end_of}
use Rattle.o2_ne_segs.specs.SegmentTable.{HasSize, segment_at}
use Rattle.o2_ne_segs.proofs.segment.rows.Goals as goal

pub returns-in_err-add_row-clause-exact : goal.returns-in_err-add_row-clause-exact
returns-in_err-add_row-clause-exact c =
    let p = err_from_is_err_and c.from_residual.result c.from_residual.ensures.1 in
    rw (p.1, p.2) (fails_here c.in_err-add_row.field-0.0 _ _ _ _ _ c.loop-test.true c.in_err-add_row.ensures.step c.loop.invariant.so_far)

pub loop-preserved : goal.loop-preserved
loop-preserved c = record {
  so_far = goes_on _ _ _ _ _ _ c.loop-test.true c.in_ok-add_row.ensures.step c.loop.invariant.so_far;
  many = search rules;
  inside = each_pushed (λ (s : Segment). end_of s ≤ length c.args.file.now) _ _ (search rules) c.in_ok-add_row.ensures.before c.in_ok-add_row.ensures.inside c.loop.invariant.inside;
  sizes = each_pushed HasSize _ _ (search rules) c.in_ok-add_row.ensures.before c.in_ok-add_row.ensures.size c.loop.invariant.sizes;
  rows = each_pushed_at (λ (k : ℕ) (s : Segment). s ≡ segment_at c.args.file.now c.args.shift (c.args.at + 8 * k)) _ _ (search rules) c.in_ok-add_row.ensures.before c.in_ok-add_row.ensures.row c.loop.invariant.rows;
}

pub returns-clause-exact : goal.returns-clause-exact
returns-clause-exact c = is_done _ _ _ _ _ c.loop-test.false c.loop.invariant.so_far
