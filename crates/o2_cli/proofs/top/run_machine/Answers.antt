use Rattle.std.proofs.Common.{◌⊎◌, inl, inr, length, ap, refl}
use Rattle.std.specs.Prelude.{Ok, Err}
use Rattle.o2_run.proofs.Reached.{rose_since, whole_from}
use Rattle.o2_world.specs.World.{Setting}
use Rattle.o2_machine.specs.Lasts.{machine_swaps, put_of, stopped_of}
use Rattle.o2_machine.specs.StandsFor.{StandsFor}
use Rattle.o2_machine.specs.Begins.{setting_of, first_world}
use Rattle.o2_cli.proofs.Ample.{fits_from}
use Rattle.o2_run.proofs.StopLines.{failed_since, texts_of_lined}
use Rattle.o2_cli.proofs.Runs.{faulted_run, has_started, nothing_yet, stands_over, start_of}
use Rattle.o2_cli.proofs.Sessions.{ran}
use Rattle.o2_words.specs.declared.words.Verb.TheVariants.{Run}
use Rattle.o2_cli.specs.declared.status.Status.TheVariants.{Fine}
use Rattle.o2_cli.proofs.top.run_machine.Goals as goal

either : (A B C : Type 0) → (B → C) → A ⊎ B → A ⊎ C
either A B C f (inl a) = inl a
either A B C f (inr b) = inr (f b)

pub returns-in-Ok : goal.returns-in-Ok
returns-in-Ok g c = record {
  runs =
      λ session start b.
      ran Run session _ _ _ _ (Ok tt) Fine refl _ _ (c.in-Ok.ensures.cause (ap stopped_of b.begins.fresh)) (either _ _ _ (rose_since _ _ _ b.count)) (λ rose. rose)
      c.run.ensures.swap_blocks c.run.ensures.swap_told c.run.ensures.goes_on
      (λ tells text may input left.
      let s = session in
      let begun = b.begins in
      let w = first_world s.linked s.conf input begun.built in
      record {
        start = start_of s input begun.built;
        starts = has_started s input begun.built begun.starts;
        runs = whole_from machine_swaps (setting_of s.conf) w _ _ _ _ _ _ _ _ _ _ (length w.lines) (b.puts begun.built begun.starts)
            (c.in-Ok.ensures.texts (ap stopped_of begun.fresh) tells text may (setting_of s.conf) w _ _ (stands_over _ _ _ _ _ _ begun _ b.is _ input) left (nothing_yet s begun.built input _) begun.to_report).0;
      })
      (λ tells text may input left fits.
      let s = session in
      let begun = b.begins in
      (c.run.ensures.idle (ap stopped_of begun.fresh) tells text may (setting_of s.conf) (first_world s.linked s.conf input begun.built) (stands_over _ _ _ _ _ _ begun _ b.is _ input) left begun.unused (fits_from s input begun.built begun.starts fits)).0);
}

pub returns-in-Err : goal.returns-in-Err
returns-in-Err g c = record {
  runs =
      λ session start b.
      ran Run session _ _ _ _ (Err c.in-Err.why) _ c.from.ensures _ _ (c.in-Err.ensures.cause (ap stopped_of b.begins.fresh)) (either _ _ _ (rose_since _ _ _ b.count)) (λ rose. rose)
      c.run.ensures.swap_blocks c.run.ensures.swap_told c.run.ensures.goes_on
      (λ tells text may.
      faulted_run _ _ _ _ _ _ _ _ _ _ _ _ _ _ (λ (s : Setting). StandsFor c.run.new.machine (g.S.SwapDevice.blocks c.run.new.swap) (g.S.SwapDevice.block c.run.new.swap) s) _
      (failed_since g.R.Sink.puts g.R.Sink.faults start c.args.report.now c.run.new.report b.count) c.in-Err.why _ c.from.ensures (λ input left.
      let s = session in
      let begun = b.begins in
      let w = first_world s.linked s.conf input begun.built in
      record {
        start = start_of s input begun.built;
        starts = has_started s input begun.built begun.starts;
        runs = (
          b.puts begun.built begun.starts,
          texts_of_lined (StandsFor c.run.new.machine (g.S.SwapDevice.blocks c.run.new.swap) (g.S.SwapDevice.block c.run.new.swap) (setting_of s.conf)) machine_swaps _ (setting_of s.conf) w _ _ _ _ _ _ _
              (put_of c.run.new.machine.last) (Err c.in-Err.why)
              (c.in-Err.ensures.texts (ap stopped_of begun.fresh) tells text may (setting_of s.conf) w _ _ (stands_over _ _ _ _ _ _ begun _ b.is _ input) left (nothing_yet s begun.built input _) begun.to_report),
        );
      }))
      (λ tells text may input left fits.
      let s = session in
      let begun = b.begins in
      (c.run.ensures.idle (ap stopped_of begun.fresh) tells text may (setting_of s.conf) (first_world s.linked s.conf input begun.built) (stands_over _ _ _ _ _ _ begun _ b.is _ input) left begun.unused (fits_from s input begun.built begun.starts fits)).0);
}
