use Rattle.std.proofs.Common.{ap, inl, inr, refl}
use Rattle.std.specs.Prelude.{Ok, Err}
use Rattle.o2_run.specs.Lined.{LastPutFailed}
use Rattle.o2_run.proofs.Reached.{rose_since}
use Rattle.o2_run.proofs.StopLines.{failed_since}
use Rattle.o2_world.specs.World.{Setting}
use Rattle.o2_machine.specs.Lasts.{put_of, stopped_of}
use Rattle.o2_machine.specs.StandsFor.{StandsFor}
use Rattle.o2_machine.specs.Begins.{setting_of, first_world}
use Rattle.o2_cli.proofs.Ample.{fits_from}
use Rattle.o2_cli.proofs.Runs.{has_started, stands_over, start_of}
use Rattle.o2_cli.proofs.Sessions.{ran}
use Rattle.o2_words.specs.declared.words.Verb.TheVariants.{Bench}
use Rattle.o2_cli.specs.declared.status.Status.TheVariants.{Fine}
use Rattle.o2_cli.proofs.Benches.{bench_cut, bench_done, faulted_bench, has_last_line}
use Rattle.o2_cli.proofs.bench.bench_machine.Goals as goal

pub put_line-requires : goal.put_line-requires
put_line-requires g c =
    has_last_line _ c.in-Ok.ensures.stopped

pub returns-in-Err : goal.returns-in-Err
returns-in-Err g c = record {
  runs =
      λ session start b.
      ran (Bench c.args.count) session _ _ _ _ (Err c.in-Err.why) _ c.from.ensures _ _ (c.in-Err.ensures.cause (ap stopped_of b.begins.fresh)) (λ rose. inr (rose_since _ _ _ b.count rose)) (λ rose. rose)
      c.run_unseen.ensures.swap_blocks c.run_unseen.ensures.swap_told c.run_unseen.ensures.goes_on
      (λ tells text may.
      let s = session in
      let begun = b.begins in
      faulted_bench s _ _ _ _ _ _ _ _ _ _ (λ (t : Setting). StandsFor c.run_unseen.new.machine (g.S.SwapDevice.blocks c.run_unseen.new.swap) (g.S.SwapDevice.block c.run_unseen.new.swap) t)
      _ (failed_since g.R.Sink.puts g.R.Sink.faults start c.args.report.now c.run_unseen.new.report b.count) c.args.count _ _ c.in-Err.why _ c.from.ensures (λ input left.
      let w = first_world s.linked s.conf input begun.built in
      record {
        start = start_of s input begun.built;
        starts = has_started s input begun.built begun.starts;
        runs = (
          b.puts begun.built begun.starts,
          c.in-Err.ensures.texts (ap stopped_of begun.fresh) tells text may (setting_of s.conf) w _ (stands_over _ _ _ _ _ _ begun _ b.is _ input) left refl begun.to_report,
        );
      }))
      (λ tells text may input left fits.
      let s = session in
      let begun = b.begins in
      (c.run_unseen.ensures.idle (ap stopped_of begun.fresh) tells text may (setting_of s.conf) (first_world s.linked s.conf input begun.built) (stands_over _ _ _ _ _ _ begun _ b.is _ input) left begun.unused (fits_from s input begun.built begun.starts fits)).0);
}

pub returns-in-Done : goal.returns-in-Done
returns-in-Done g c = record {
  runs =
      λ session start b.
      ran (Bench c.args.count) session _ _ _ _ (Ok tt) Fine refl _ _ (c.in-Ok.ensures.cause (ap stopped_of b.begins.fresh)) (λ rose. inr (rose_since _ _ _ b.count rose)) (λ rose. rose)
      c.run_unseen.ensures.swap_blocks c.run_unseen.ensures.swap_told c.run_unseen.ensures.goes_on
      (λ tells text may.
      let s = session in
      let begun = b.begins in
      bench_done s (g.S.SwapDevice.blocks c.args.swap.now) _ _ _ _
      (LastPutFailed g.R.Sink.puts g.R.Sink.faults c.args.report.now c.run_unseen.new.report) _ _ _ (put_of c.run_unseen.new.machine.last)
      (λ (t : Setting). StandsFor c.run_unseen.new.machine (g.S.SwapDevice.blocks c.run_unseen.new.swap)
      (g.S.SwapDevice.block c.run_unseen.new.swap) t)
      (Unit {0}) c.args.count _ _ _ _ c.put_line.ensures.puts (λ input left.
      let w = first_world s.linked s.conf input begun.built in
      record {
        start = start_of s input begun.built;
        starts = has_started s input begun.built begun.starts;
        runs = (
          b.puts begun.built begun.starts,
          c.in-Ok.ensures.texts (ap stopped_of begun.fresh) tells text may (setting_of s.conf) w _ (stands_over _ _ _ _ _ _ begun _ b.is _ input) left refl begun.to_report,
        );
      }) (λ t w st. c.in-Done.ensures.text _ _ t w st))
      (λ tells text may input left fits.
      let s = session in
      let begun = b.begins in
      (c.run_unseen.ensures.idle (ap stopped_of begun.fresh) tells text may (setting_of s.conf) (first_world s.linked s.conf input begun.built) (stands_over _ _ _ _ _ _ begun _ b.is _ input) left begun.unused (fits_from s input begun.built begun.starts fits)).0);
}

pub returns-in-Failed : goal.returns-in-Failed
returns-in-Failed g c = record {
  runs =
      λ session start b.
      record {
        same = tt;
        swap_blocks = c.run_unseen.ensures.swap_blocks;
        swap_told = c.run_unseen.ensures.swap_told;
        refused = tt;
        texts = λ tells text may.
            let s = session in
            let begun = b.begins in
            bench_cut s (g.S.SwapDevice.blocks c.args.swap.now) _ _ _ _
            (LastPutFailed g.R.Sink.puts g.R.Sink.faults c.args.report.now c.run_unseen.new.report) _ _ _ (put_of c.run_unseen.new.machine.last)
            (λ (t : Setting). StandsFor c.run_unseen.new.machine (g.S.SwapDevice.blocks c.run_unseen.new.swap)
            (g.S.SwapDevice.block c.run_unseen.new.swap) t)
            (Unit {0}) c.args.count _ _ _ _ c.put_line.ensures.puts (λ input left.
            let w = first_world s.linked s.conf input begun.built in
            record {
              start = start_of s input begun.built;
              starts = has_started s input begun.built begun.starts;
              runs = (
                b.puts begun.built begun.starts,
                c.in-Ok.ensures.texts (ap stopped_of begun.fresh) tells text may (setting_of s.conf) w _ (stands_over _ _ _ _ _ _ begun _ b.is _ input) left refl begun.to_report,
              );
            }) (λ t w st. c.in-Failed.ensures.text _ _ t w st);
        goes_on = c.run_unseen.ensures.goes_on;
        input_fault = tt;
        sink_fault = inl c.in-Failed.ensures.cause;
        swap_fault = tt;
        idle = λ tells text may input left fits.
            let s = session in
            let begun = b.begins in
            (c.run_unseen.ensures.idle (ap stopped_of begun.fresh) tells text may (setting_of s.conf) (first_world s.linked s.conf input begun.built) (stands_over _ _ _ _ _ _ begun _ b.is _ input) left begun.unused (fits_from s input begun.built begun.starts fits)).0;
      };
}
