use Rattle.std.proofs.Common.{arith, refl, ◌+◌}
use Rattle.o2_dumping.proofs.Holding.{processes_next}
use Rattle.o2_dumping.proofs.Fitting.{rows_more, tables_more}
use Rattle.o2_dumping.proofs.Putting.{front_put, more_put}
use Rattle.o2_dumping.proofs.processes.put_processes.Goals as goal

pub returns-in-Failed-clause-text : goal.returns-in-Failed-clause-text
returns-in-Failed-clause-text g c =
    front_put _ _ _ _ _ _ _ c.loop-place.invariant.text (processes_next c.args.store.now c.args.regions.now (c.loop-place.place + 1) c.loop-place.place c.args.rows.now _ (omega arith)) c.in-Failed.ensures.text

pub loop-place-preserved : goal.loop-place-preserved
loop-place-preserved g c = record {
  text = more_put _ _ _ _ _ _ _ c.loop-place.invariant.text (processes_next c.args.store.now c.args.regions.now (c.loop-place.place + 1) c.loop-place.place c.args.rows.now _ (omega arith)) c.in-Done.ensures.text;
  rows = rows_more c.args.rows.now c.loop-place.place _ (omega arith) c.loop-place.invariant.rows c.put_process.ensures.row;
  fits = tables_more c.args.regions.now c.loop-place.place c.loop-place.invariant.fits (c.in-Done.ensures.fits refl);
  count = omega (arith, c.loop-place.invariant.count, c.in-Done.ensures.count);
}
