use Rattle.std.proofs.Common.{ℕ, ◌∙◌, ap, inr, min, refl, subst, sym}
use Rattle.o2_image.specs.ImageList.{ImageList}
use Rattle.o2_run.specs.Lined.{LastPutFailed}
use Rattle.o2_run.proofs.Reached.{rose_since}
use Rattle.o2_run.proofs.StopLines.{failed_since}
use Rattle.o2_machine.specs.Begins.{first_world, setting_of}
use Rattle.o2_machine.specs.Lasts.{put_of, stopped_of}
use Rattle.o2_machine.specs.StandsFor.{StandsFor}
use Rattle.o2_cli.specs.DumpTexts.{GainsByWrote, is_dumped}
use Rattle.o2_cli.proofs.Ample.{fits_from}
use Rattle.o2_cli.proofs.Runs.{stands_over}
use Rattle.o2_cli.proofs.Dumps.{with_image, without_image}
use Rattle.o2_cli.proofs.ImageStatuses.{before_causes, image_input, image_refusal, image_sink, image_swap, image_unrun, run_input, run_refusal, run_sink, run_swap, run_unrun}
use Rattle.o2_cli.proofs.Sessions.{ran}
use Rattle.o2_words.specs.declared.words.Verb.TheVariants.{Dump}
use Rattle.o2_cli.proofs.dump.dump_machine.Goals as goal

pub returns-then-is_dumped : goal.returns-then-is_dumped
returns-then-is_dumped g c = record {
  runs =
      λ session start b blocks.
      record {
        same = image_unrun c.put_image-wrote.result c.status_of_run-whole.result _ c.status_of_image.ensures _ (run_unrun c.run_unseen-ended.result c.status_of_run-whole.result c.status_of_run-whole.ensures _);
        swap_blocks = c.put_image-wrote.ensures.read.count ∙ c.run_unseen-ended.ensures.swap_blocks;
        swap_told = λ told. c.run_unseen-ended.ensures.swap_told (c.put_image-wrote.ensures.read.earlier told);
        refused = image_refusal c.put_image-wrote.result c.status_of_run-whole.result _ c.status_of_image.ensures session (run_refusal c.run_unseen-ended.result c.status_of_run-whole.result c.status_of_run-whole.ensures session);
        texts = λ tells text may.
            let s = session in
            let begun = b.begins in
            let same = c.run_unseen-ended.ensures.swap_blocks in
            with_image s begun.built begun.starts (g.S.SwapDevice.blocks c.args.swap.now) _ _ _ _ _ _
            (LastPutFailed g.R.Sink.puts g.R.Sink.faults c.args.report.now c.run_unseen-ended.new.report) _
            (failed_since g.R.Sink.puts g.R.Sink.faults start c.args.report.now c.run_unseen-ended.new.report b.count) _ _ _ _ _
            (b.puts begun.built begun.starts) (put_of c.run_unseen-ended.new.machine.last)
            (StandsFor c.run_unseen-ended.new.machine (g.S.SwapDevice.blocks c.run_unseen-ended.new.swap) (g.S.SwapDevice.block c.run_unseen-ended.new.swap) (setting_of s.conf))
            c.run_unseen-ended.result c.put_image-wrote.result c.status_of_run-whole.result _ c.status_of_run-whole.ensures c.status_of_image.ensures (ap (is_dumped c.run_unseen-ended.result) (sym c.line_put.ensures) ∙ sym c.is_dumped.ensures ∙ c.if-is_dumped.true) (λ v st.
            subst (λ (n : ℕ). GainsByWrote s.linked.images n (setting_of s.conf) v (g.C.Sink.taken c.args.console.now) (g.C.Sink.taken c.put_image-wrote.new.console) c.put_image-wrote.result) same
            (subst (λ (l : ImageList). GainsByWrote l (g.S.SwapDevice.blocks c.run_unseen-ended.new.swap) (setting_of s.conf) v
            (g.C.Sink.taken c.args.console.now) (g.C.Sink.taken c.put_image-wrote.new.console) c.put_image-wrote.result)
            (c.run_unseen-ended.ensures.images ∙ begun.images)
            (c.put_image-wrote.ensures.text tells (setting_of s.conf) v (blocks ∙ ap (min s.conf.swap) (sym same)) st))) (λ input left.
            c.run_unseen-ended.ensures.texts (ap stopped_of begun.fresh) (c.put_image-wrote.ensures.read.earlier tells) text may (setting_of s.conf) (first_world s.linked s.conf input begun.built) _ (stands_over _ _ _ _ _ _ begun _ b.is _ input) left refl begun.to_report);
        goes_on = c.run_unseen-ended.ensures.goes_on;
        input_fault = image_input c.put_image-wrote.result c.status_of_run-whole.result _
            c.status_of_image.ensures _ (run_input c.run_unseen-ended.result c.status_of_run-whole.result c.status_of_run-whole.ensures _ _ _
            (c.run_unseen-ended.ensures.cause (ap stopped_of b.begins.fresh)));
        sink_fault = image_sink c.put_image-wrote.result c.status_of_run-whole.result _ c.status_of_image.ensures
            _ _ _ _ c.put_image-wrote.ensures.causes _ (run_sink c.run_unseen-ended.result c.status_of_run-whole.result
            c.status_of_run-whole.ensures _ _ _ (c.run_unseen-ended.ensures.cause (ap stopped_of b.begins.fresh)) _
            (λ rose. inr (rose_since _ _ _ b.count rose)));
        swap_fault = image_swap c.put_image-wrote.result c.status_of_run-whole.result _ c.status_of_image.ensures _ _ _ _ c.put_image-wrote.ensures.causes _ (λ rose. rose_since _ _ _ c.run_unseen-ended.ensures.swap_count rose)
            (run_swap c.run_unseen-ended.result c.status_of_run-whole.result c.status_of_run-whole.ensures _ _ _ (c.run_unseen-ended.ensures.cause (ap stopped_of b.begins.fresh)) _ (λ rose. before_causes _ _ _ rose c.put_image-wrote.ensures.causes.swaps));
        idle = λ tells text may input left fits.
            let s = session in
            let begun = b.begins in
            let still = (c.run_unseen-ended.ensures.idle (ap stopped_of begun.fresh) tells text may (setting_of s.conf)
            (first_world s.linked s.conf input begun.built) (stands_over _ _ _ _ _ _ begun _ b.is _ input) left
            begun.unused (fits_from s input begun.built begun.starts fits)) in
            c.put_image-wrote.ensures.idle still.1 ∙ still.0;
      };
}

pub returns-else-is_dumped : goal.returns-else-is_dumped
returns-else-is_dumped g c = record {
  runs =
      λ session start b blocks.
      ran Dump session _ _ _ _ c.run_unseen-ended.result c.status_of_run-whole.result c.status_of_run-whole.ensures _ _ (c.run_unseen-ended.ensures.cause (ap stopped_of b.begins.fresh)) (λ rose. inr (rose_since _ _ _ b.count rose)) (λ rose. rose)
      c.run_unseen-ended.ensures.swap_blocks c.run_unseen-ended.ensures.swap_told c.run_unseen-ended.ensures.goes_on
      (λ tells text may.
      let s = session in
      let begun = b.begins in
      without_image s begun.built begun.starts (g.S.SwapDevice.blocks c.args.swap.now) _ _ _ _ _ _
      (LastPutFailed g.R.Sink.puts g.R.Sink.faults c.args.report.now c.run_unseen-ended.new.report) _
      (failed_since g.R.Sink.puts g.R.Sink.faults start c.args.report.now c.run_unseen-ended.new.report b.count) _ _ _ _ _
      (b.puts begun.built begun.starts) (put_of c.run_unseen-ended.new.machine.last)
      (StandsFor c.run_unseen-ended.new.machine (g.S.SwapDevice.blocks c.run_unseen-ended.new.swap) (g.S.SwapDevice.block c.run_unseen-ended.new.swap) (setting_of s.conf))
      (record { same = refl; none_put = refl }) c.run_unseen-ended.result _ c.status_of_run-whole.ensures (ap (is_dumped c.run_unseen-ended.result) (sym c.line_put.ensures) ∙ sym c.is_dumped.ensures ∙ c.if-is_dumped.false) (λ input left.
      c.run_unseen-ended.ensures.texts (ap stopped_of begun.fresh) tells text may (setting_of s.conf) (first_world s.linked s.conf input begun.built) _ (stands_over _ _ _ _ _ _ begun _ b.is _ input) left refl begun.to_report))
      (λ tells text may input left fits.
      let s = session in
      let begun = b.begins in
      (c.run_unseen-ended.ensures.idle (ap stopped_of begun.fresh) tells text may (setting_of s.conf) (first_world s.linked s.conf input begun.built) (stands_over _ _ _ _ _ _ begun _ b.is _ input) left begun.unused (fits_from s input begun.built begun.starts fits)).0);
}
