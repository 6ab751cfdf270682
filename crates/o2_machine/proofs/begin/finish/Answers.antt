use Rattle.std.proofs.Common.{◌+◌, List, map, length, sum_by, arith, ap, sym, ◌∙◌, subst}
use Rattle.o2_outer.specs.Texts.{Gains}
use Rattle.o2_store.specs.Idle.{NoneTaken}
use Rattle.o2_store.specs.Shelf.{Shelf}
use Rattle.o2_world.specs.World.{Line}
use Rattle.o2_world.specs.Text.{lines_text}
use Rattle.o2_run.specs.Pieces.{FailsInLine}
use Rattle.o2_load.specs.Beginnings.{lines_from}
use Rattle.o2_machine.specs.Readies.{first_proc}
use Rattle.o2_machine.proofs.FirstStands.{first_goes_on, first_stands, lines_counted, space_of}
use Rattle.o2_machine.proofs.PutLines.{fails_front}
use Rattle.o2_machine.proofs.begin.finish.Goals as goal

pub returns-in-Done-clause-begins : goal.returns-in-Done-clause-begins
returns-in-Done-clause-begins g c = λ b e is.
    let l = c.args.linked in
    let m = c.assemble.result in
    let z = c.assemble.ensures.space in
    let front = c.in-Ok.front in
    let space : space_of c.args.opened l.images front.procs.items front.services m.space = (ap (λ x. x.procs.items) z, (ap (λ x. x.ends) z, (ap (λ x. x.store) z, (ap (λ x. x.regions) z, (ap (λ x. x.images) z ∙ c.into_images.ensures.value, ap (λ x. x.services) z))))) in
    let each = c.in-Ok.ensures.procs ∙ ap (map first_proc) c.deref.ensures.value in
    let lines = c.assemble.ensures.lines ∙ c.line_count-lines.ensures.count ∙ ap (λ xs. sum_by (λ v. length v.items + 1) xs) c.deref-2.ensures.value ∙ sym (lines_counted (λ v. v.items) l 1 _) ∙ ap length (sym is.lines) in
    record {
      built = b;
      starts = e;
      stands = first_stands c.args.opened l b c.args.conf.now c.args.blocks m front.procs.items front.services is e c.requires.count c.requires.processes c.requires.swap c.requires.stands c.requires.sound c.requires.told space (ap (λ x. x.names) z ∙ c.in-Ok.ensures.names) each
          c.in-Ok.ensures.avail (c.assemble.ensures.sched ∙ c.in-Ok.ensures.sched) c.assemble.ensures.budget c.assemble.ensures.console lines c.requires.within;
      goes_on = first_goes_on c.args.opened l b c.args.conf.now c.args.blocks m front.procs.items front.services is e c.requires.count c.requires.processes c.requires.swap c.requires.stands c.requires.sound c.requires.told space (ap (λ x. x.names) z ∙ c.in-Ok.ensures.names) each
          c.in-Ok.ensures.avail (c.assemble.ensures.sched ∙ c.in-Ok.ensures.sched) c.assemble.ensures.budget c.assemble.ensures.console lines c.requires.within;
      unused = subst (λ (st : Shelf). NoneTaken st.swap) (sym (ap (λ x. x.store) z)) c.requires.unused;
      images = ap (λ x. x.images) z ∙ c.into_images.ensures.value;
      fresh = c.assemble.ensures.fresh;
      to_report = subst (λ (z : List Line). Gains (g.R.Sink.taken c.args.report.now) (g.R.Sink.taken c.put_starts.new.report) (lines_text z))
          (ap (λ xs. lines_from l 1 (map (λ v. v.items) xs)) c.deref-3.ensures.value ∙ sym is.lines) c.in-Done.ensures.lines.0;
    }

pub returns-in-Done-clause-puts : goal.returns-in-Done-clause-puts
returns-in-Done-clause-puts g c = λ b is.
    let same = ap (λ xs. lines_from c.args.linked 1 (map (λ v. v.items) xs)) c.deref-3.ensures.value ∙ sym is.lines in
    omega (arith, c.in-Done.ensures.lines.1, ap length same)

pub returns-in-Failed-clause-puts : goal.returns-in-Failed-clause-puts
returns-in-Failed-clause-puts g c = λ b is.
    subst (λ (z : List Line). FailsInLine z (g.R.Sink.taken c.args.report.now) (g.R.Sink.taken c.put_starts.new.report) (g.R.Sink.puts c.args.report.now) (g.R.Sink.puts c.put_starts.new.report))
    (ap (λ xs. lines_from c.args.linked 1 (map (λ v. v.items) xs)) c.deref-3.ensures.value ∙ sym is.lines) c.in-Failed.ensures.lines

pub returns-in-Failed-clause-begins : goal.returns-in-Failed-clause-begins
returns-in-Failed-clause-begins g c = λ b e is. record {
  built = b;
  starts = e;
  to_report = fails_front b.lines _ _ _ _
      (subst (λ (z : List Line). FailsInLine z (g.R.Sink.taken c.args.report.now) (g.R.Sink.taken c.put_starts.new.report) (g.R.Sink.puts c.args.report.now) (g.R.Sink.puts c.put_starts.new.report))
      (ap (λ xs. lines_from c.args.linked 1 (map (λ v. v.items) xs)) c.deref-3.ensures.value ∙ sym is.lines) c.in-Failed.ensures.lines);
}
