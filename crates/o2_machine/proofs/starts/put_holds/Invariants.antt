use Rattle.std.proofs.Common.{take, ◌≤◌}
use Rattle.o2_outer.specs.declared.sink.Put.TheVariants as put
use Rattle.o2_world.specs.Opening.{hold_lines}
use Rattle.o2_machine.specs.PutLines.{PutsLines}
use Rattle.o2_machine.proofs.starts.put_holds.Given as goal

abbrev pub invariant-loop-selector : goal.invariant-loop-selector
invariant-loop-selector g l = record {
  so_far : PutsLines (hold_lines l.process (take l.selector-index l.selectors)) (g.R.Sink.taken l.fn.report) (g.R.Sink.taken l.report) (g.R.Sink.puts l.fn.report) (g.R.Sink.puts l.report) put.Done;
  count : g.R.Sink.faults l.fn.report ≤ g.R.Sink.faults l.report;
}
