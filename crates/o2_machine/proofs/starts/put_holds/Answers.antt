use Rattle.std.proofs.Common.{◌∷◌, [], List, ℕ, ◌+◌, arith, drop, get_or, subst, suc, sym, take}
use Rattle.std.specs.Prelude.{codes}
use Rattle.o2_outer.specs.declared.sink.Put.TheVariants as put
use Rattle.o2_world.specs.World.{HoldsBy, Line}
use Rattle.o2_world.specs.Opening.{hold_lines}
use Rattle.o2_machine.specs.PutLines.{PutsLines}
use Rattle.o2_run.specs.Pieces.{FailsInLine}
use Rattle.o2_run.proofs.FailedLines.{fails_behind}
use Rattle.o2_machine.proofs.PutLines.{line_failed, line_whole, lines_behind}
use Rattle.o2_machine.proofs.StartLines.{holds_more, holds_split}
use Rattle.o2_machine.proofs.starts.put_holds.Goals as goal

pub returns-in-Failed-clause-lines : goal.returns-in-Failed-clause-lines
returns-in-Failed-clause-lines g c =
    let p = c.args.process in
    let xs = c.args.selectors.now in
    let i = c.loop-selector.selector-index in
    let so_far = c.loop-selector.invariant.so_far in
    subst (λ (ls : List Line). FailsInLine ls (g.R.Sink.taken c.args.report.now) (g.R.Sink.taken c.put.new.self) (g.R.Sink.puts c.args.report.now) (g.R.Sink.puts c.put.new.self)) (sym (holds_split p xs i c.loop-selector-test.true))
    (fails_behind (hold_lines p (take i xs)) _ _ (g.R.Sink.taken c.loop-selector.report) _ _ (g.R.Sink.puts c.loop-selector.report) _ so_far.0 so_far.1
    (line_failed (HoldsBy p (get_or xs i 0) (codes "load")) (hold_lines p (drop (suc i) xs)) _ _ _ _ (rw (c.as_slice.ensures, c.set_holds.ensures) at c.in-Failed.ensures.takes) c.in-Failed.ensures.puts))

pub loop-selector-preserved : goal.loop-selector-preserved
loop-selector-preserved g c =
    let p = c.args.process in
    let xs = c.args.selectors.now in
    let i = c.loop-selector.selector-index in
    record {
      so_far = subst (λ (ls : List Line). PutsLines ls (g.R.Sink.taken c.args.report.now) (g.R.Sink.taken c.put.new.self) (g.R.Sink.puts c.args.report.now) (g.R.Sink.puts c.put.new.self) put.Done) (sym (holds_more p xs i c.loop-selector-test.true))
          (lines_behind (hold_lines p (take i xs)) _ _ (g.R.Sink.taken c.loop-selector.report) _ _ (g.R.Sink.puts c.loop-selector.report) _ put.Done c.loop-selector.invariant.so_far
          (line_whole (HoldsBy p (get_or xs i 0) (codes "load")) _ _ _ _ (rw (c.as_slice.ensures, c.set_holds.ensures) at c.in-Done.ensures.takes) c.in-Done.ensures.puts));
      count = omega (arith, c.loop-selector.invariant.count, c.in-Done.ensures.count);
    }
