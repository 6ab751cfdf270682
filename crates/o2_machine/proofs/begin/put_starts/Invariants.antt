use Rattle.std.proofs.Common.{map, take, ◌≤◌}
use Rattle.o2_outer.specs.declared.sink.Put.TheVariants as put
use Rattle.o2_load.specs.Beginnings.{lines_from}
use Rattle.o2_machine.specs.PutLines.{PutsLines}
use Rattle.o2_machine.proofs.begin.put_starts.Given as goal

abbrev pub invariant-loop-i : goal.invariant-loop-i
invariant-loop-i g l = record {
  so_far : PutsLines (lines_from l.linked 1 (take l.i (map (λ v. v.items) l.starts))) (g.R.Sink.taken l.fn.report) (g.R.Sink.taken l.report) (g.R.Sink.puts l.fn.report) (g.R.Sink.puts l.report) put.Done;
  count : g.R.Sink.faults l.fn.report ≤ g.R.Sink.faults l.report;
}
