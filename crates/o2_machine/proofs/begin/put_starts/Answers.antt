use Rattle.std.proofs.Common.{◌≡◌, ◌+◌, ◌++◌, List, ℕ, Some, map, take, drop, suc, arith, ap, sym, ◌∙◌, refl, subst, add-one}
use Rattle.std.specs.Prelude.{slice_get, option_map}
use Rattle.std.proofs.lemmas.Option.{slice_get_read, slice_get-map}
use Rattle.o2_outer.specs.declared.sink.Put.TheVariants as put
use Rattle.o2_world.specs.World.{Line}
use Rattle.o2_world.specs.Opening.{start_lines}
use Rattle.o2_load.specs.Beginnings.{lines_from, program_name}
use Rattle.o2_machine.specs.PutLines.{PutsLines}
use Rattle.o2_run.specs.Pieces.{FailsInLine}
use Rattle.o2_run.proofs.FailedLines.{fails_before, fails_behind}
use Rattle.o2_machine.proofs.PutLines.{lines_behind}
use Rattle.o2_machine.proofs.StartLines.{starts_split, starts_more}
use Rattle.o2_machine.proofs.begin.put_starts.Goals as goal

pub returns-in-Failed-clause-lines : goal.returns-in-Failed-clause-lines
returns-in-Failed-clause-lines g c =
    let l = c.args.linked.now in
    let rows = map (λ v. v.items) c.args.starts.now in
    let i = c.loop-i.i in
    let there : slice_get rows i ≡ Some c.deref.result.now =
    slice_get-map (λ v. v.items) c.args.starts.now i ∙ ap (option_map (λ v. v.items)) (slice_get_read _ _ i c.index-starts-i.result refl c.loop-i-test.true c.index-starts-i.is) ∙ ap Some (sym c.deref.ensures.value) in
    subst (λ (ls : List Line). FailsInLine ls (g.R.Sink.taken c.args.report.now) (g.R.Sink.taken c.put_start.new.report) (g.R.Sink.puts c.args.report.now) (g.R.Sink.puts c.put_start.new.report))
    (sym (starts_split l rows 1 i (i + 1) c.deref.result.now (omega (arith)) there))
    (fails_behind (lines_from l 1 (take i rows)) (start_lines (i + 1) (program_name l (i + 1)) c.deref.result.now ++ lines_from l (i + 1 + 1) (drop (suc i) rows)) _ (g.R.Sink.taken c.loop-i.report) _ _ (g.R.Sink.puts c.loop-i.report) _
    c.loop-i.invariant.so_far.0 c.loop-i.invariant.so_far.1
    (fails_before (start_lines (i + 1) (program_name l (i + 1)) c.deref.result.now) (lines_from l (i + 1 + 1) (drop (suc i) rows)) _ _ _ _
    (subst (λ (z : List ℕ). FailsInLine (start_lines (i + 1) z c.deref.result.now) (g.R.Sink.taken c.loop-i.report) (g.R.Sink.taken c.put_start.new.report) (g.R.Sink.puts c.loop-i.report) (g.R.Sink.puts c.put_start.new.report)) c.program_name.ensures.value c.in-Failed.ensures.lines)))

pub loop-i-preserved : goal.loop-i-preserved
loop-i-preserved g c =
    let l = c.args.linked.now in
    let rows = map (λ v. v.items) c.args.starts.now in
    let i = c.loop-i.i in
    let there : slice_get rows i ≡ Some c.deref.result.now =
    slice_get-map (λ v. v.items) c.args.starts.now i ∙ ap (option_map (λ v. v.items)) (slice_get_read _ _ i c.index-starts-i.result refl c.loop-i-test.true c.index-starts-i.is) ∙ ap Some (sym c.deref.ensures.value) in
    let more = ap (λ k. lines_from l 1 (take k rows)) (add-one i) ∙ starts_more l rows 1 i (i + 1) c.deref.result.now (omega (arith)) there in
    record {
      so_far = subst (λ (ls : List Line). PutsLines ls (g.R.Sink.taken c.args.report.now) (g.R.Sink.taken c.put_start.new.report) (g.R.Sink.puts c.args.report.now) (g.R.Sink.puts c.put_start.new.report) put.Done) (sym more)
          (lines_behind (lines_from l 1 (take i rows)) (start_lines (i + 1) (program_name l (i + 1)) c.deref.result.now) _ (g.R.Sink.taken c.loop-i.report) _ _ (g.R.Sink.puts c.loop-i.report) _ put.Done c.loop-i.invariant.so_far
          (subst (λ (z : List ℕ). PutsLines (start_lines (i + 1) z c.deref.result.now) (g.R.Sink.taken c.loop-i.report) (g.R.Sink.taken c.put_start.new.report) (g.R.Sink.puts c.loop-i.report) (g.R.Sink.puts c.put_start.new.report) put.Done) c.program_name.ensures.value c.in-Done.ensures.lines));
      count = omega (arith, c.loop-i.invariant.count, c.in-Done.ensures.count);
    }
